use Rattle.std.proofs.Common.{None, string_bytes, sym, subst}
use Rattle.json_patch_text.specs.Patched.{HasTexts}
use Rattle.json_patch_text.proofs.WayBack.{leads, recorded_all, undo_kept}
use Rattle.json_patch_text.proofs.Within.{run_fault}
use Rattle.json_patch_text.proofs.record.record_text.Goals as goal

pub returns-in-Ok-clause-recorded : goal.returns-in-Ok-clause-recorded
returns-in-Ok-clause-recorded c =
    (recorded_all c.args.text.now c.args.patch.now (string_bytes c.in-Ok.text) (string_bytes c.in_ok-undo-in-Ok.undo) c.as_slice.result.now c.run.new.log.cost
    (subst (HasTexts c.args.patch.now) (sym c.as_slice.ensures.value) c.in_ok-operations.ensures.read) (rw c.in_ok-document.ensures.text at c.in-Ok.ensures.accepted)
    (undo_kept None c.args.text.now (string_bytes c.in-Ok.text) (string_bytes c.in_ok-undo-in-Ok.undo) c.as_slice.result.now c.new-log.result c.run.new.log c.new-log.ensures.kept (rw c.in_ok-document.ensures.text at c.in-Ok.ensures.logged) c.in_ok-undo-in-Ok.ensures)).0

pub returns-in-Ok-clause-leads_back : goal.returns-in-Ok-clause-leads_back
returns-in-Ok-clause-leads_back c =
    leads c.args.text.now c.args.patch.now (string_bytes c.in-Ok.text) (string_bytes c.in_ok-undo-in-Ok.undo)
    (recorded_all c.args.text.now c.args.patch.now (string_bytes c.in-Ok.text) (string_bytes c.in_ok-undo-in-Ok.undo) c.as_slice.result.now c.run.new.log.cost
    (subst (HasTexts c.args.patch.now) (sym c.as_slice.ensures.value) c.in_ok-operations.ensures.read) (rw c.in_ok-document.ensures.text at c.in-Ok.ensures.accepted)
    (undo_kept None c.args.text.now (string_bytes c.in-Ok.text) (string_bytes c.in_ok-undo-in-Ok.undo) c.as_slice.result.now c.new-log.result c.run.new.log c.new-log.ensures.kept (rw c.in_ok-document.ensures.text at c.in-Ok.ensures.logged) c.in_ok-undo-in-Ok.ensures)).0

pub returns-in-Ok-clause-readable : goal.returns-in-Ok-clause-readable
returns-in-Ok-clause-readable c =
    (recorded_all c.args.text.now c.args.patch.now (string_bytes c.in-Ok.text) (string_bytes c.in_ok-undo-in-Ok.undo) c.as_slice.result.now c.run.new.log.cost
    (subst (HasTexts c.args.patch.now) (sym c.as_slice.ensures.value) c.in_ok-operations.ensures.read) (rw c.in_ok-document.ensures.text at c.in-Ok.ensures.accepted)
    (undo_kept None c.args.text.now (string_bytes c.in-Ok.text) (string_bytes c.in_ok-undo-in-Ok.undo) c.as_slice.result.now c.new-log.result c.run.new.log c.new-log.ensures.kept (rw c.in_ok-document.ensures.text at c.in-Ok.ensures.logged) c.in_ok-undo-in-Ok.ensures)).1

pub returns-in-Ok-clause-as_it_stood : goal.returns-in-Ok-clause-as_it_stood
returns-in-Ok-clause-as_it_stood c =
    let (us, recorded, is) = (undo_kept None c.args.text.now (string_bytes c.in-Ok.text) (string_bytes c.in_ok-undo-in-Ok.undo) c.as_slice.result.now c.new-log.result c.run.new.log c.new-log.ensures.kept (rw c.in_ok-document.ensures.text at c.in-Ok.ensures.logged) c.in_ok-undo-in-Ok.ensures) in
    (c.as_slice.result.now, us, c.run.new.log.cost, (subst (HasTexts c.args.patch.now) (sym c.as_slice.ensures.value) c.in_ok-operations.ensures.read), recorded.0, is)

pub returns-in-Err-Patch-clause-fault : goal.returns-in-Err-Patch-clause-fault
returns-in-Err-Patch-clause-fault c =
    run_fault c.args.text.now c.args.patch.now c.as_slice.result.now c.in-Err-Patch.fault (subst (HasTexts c.args.patch.now) (sym c.as_slice.ensures.value) c.in_ok-operations.ensures.read)
    (λ ops w. ((rw (c.in_ok-document.ensures.text, c.in-Err-Patch.field-0-is) at c.in-Err-Patch.ensures.fault) ops w).0)
