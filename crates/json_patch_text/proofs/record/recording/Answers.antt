use Rattle.std.proofs.Common.{Some, string_bytes, refl, sym, subst}
use Rattle.json_lexemes.proofs.Nests.{accepted}
use Rattle.json_patch_text.specs.Bounded.{most_of}
use Rattle.json_patch_text.specs.Patched.{HasTexts}
use Rattle.json_patch_text.proofs.Bounded.{last_within, within_made}
use Rattle.json_patch_text.proofs.WayBack.{bounds_of, leads, record_starts, recorded_within, undo_kept}
use Rattle.json_patch_text.proofs.Within.{record_fault}
use Rattle.json_patch_text.proofs.record.recording.Goals as goal

pub run-requires-clause-under : goal.run-requires-clause-under
run-requires-clause-under c =
    record_starts c.args.limits c.args.text.now c.args.patch.now c.in_ok-document.document.text.now c.in_ok-operations.operations.items _ c.in_ok-document.ensures.text c.requires.depth
    (accepted c.in_ok-document.document.text.now c.in_ok-document.document.read) c.in_ok-operations.ensures.read

pub returns-clause-fault : goal.returns-clause-fault
returns-clause-fault c =
    record_fault (bounds_of c.args.limits c.args.text.now c.args.patch.now) c.args.text.now c.args.patch.now c.as_slice.result.now c.in-Err.fault refl (subst (HasTexts c.args.patch.now) (sym c.as_slice.ensures.value) c.in_ok-operations.ensures.read)
    (rw (c.in_ok-document.ensures.text, c.new-log.ensures.kept) at c.in-Err.ensures.fault)

pub returns-in-Ok-clause-kept : goal.returns-in-Ok-clause-kept
returns-in-Ok-clause-kept c =
    (c.as_slice.result.now, (subst (HasTexts c.args.patch.now) (sym c.as_slice.ensures.value) c.in_ok-operations.ensures.read), within_made c.args.limits (most_of (bounds_of c.args.limits c.args.text.now c.args.patch.now)) c.args.text.now c.as_slice.result.now (string_bytes c.in-Ok.text) c.run.new.log.cost (rw c.in_ok-document.ensures.text at c.in-Ok.ensures.made).0)

pub returns-in-Ok-clause-bounded : goal.returns-in-Ok-clause-bounded
returns-in-Ok-clause-bounded c = last_within c.args.limits (most_of (bounds_of c.args.limits c.args.text.now c.args.patch.now)) c.args.text.now c.as_slice.result.now (string_bytes c.in-Ok.text) c.run.new.log.cost (rw c.in_ok-document.ensures.text at c.in-Ok.ensures.made).0

pub returns-in-Ok-clause-recorded : goal.returns-in-Ok-clause-recorded
returns-in-Ok-clause-recorded c =
    (recorded_within (bounds_of c.args.limits c.args.text.now c.args.patch.now) c.args.text.now c.args.patch.now (string_bytes c.in-Ok.text) (string_bytes c.in_ok-undo-in-Ok.undo) c.as_slice.result.now c.run.new.log.cost
    (subst (HasTexts c.args.patch.now) (sym c.as_slice.ensures.value) c.in_ok-operations.ensures.read) (rw c.in_ok-document.ensures.text at c.in-Ok.ensures.accepted)
    (undo_kept (Some (bounds_of c.args.limits c.args.text.now c.args.patch.now)) c.args.text.now (string_bytes c.in-Ok.text) (string_bytes c.in_ok-undo-in-Ok.undo) c.as_slice.result.now c.new-log.result c.run.new.log c.new-log.ensures.kept (rw c.in_ok-document.ensures.text at c.in-Ok.ensures.logged) c.in_ok-undo-in-Ok.ensures)).0

pub returns-in-Ok-clause-leads_back : goal.returns-in-Ok-clause-leads_back
returns-in-Ok-clause-leads_back c =
    leads c.args.text.now c.args.patch.now (string_bytes c.in-Ok.text) (string_bytes c.in_ok-undo-in-Ok.undo)
    (recorded_within (bounds_of c.args.limits c.args.text.now c.args.patch.now) c.args.text.now c.args.patch.now (string_bytes c.in-Ok.text) (string_bytes c.in_ok-undo-in-Ok.undo) c.as_slice.result.now c.run.new.log.cost
    (subst (HasTexts c.args.patch.now) (sym c.as_slice.ensures.value) c.in_ok-operations.ensures.read) (rw c.in_ok-document.ensures.text at c.in-Ok.ensures.accepted)
    (undo_kept (Some (bounds_of c.args.limits c.args.text.now c.args.patch.now)) c.args.text.now (string_bytes c.in-Ok.text) (string_bytes c.in_ok-undo-in-Ok.undo) c.as_slice.result.now c.new-log.result c.run.new.log c.new-log.ensures.kept (rw c.in_ok-document.ensures.text at c.in-Ok.ensures.logged) c.in_ok-undo-in-Ok.ensures)).0

pub returns-in-Ok-clause-undo_bounded : goal.returns-in-Ok-clause-undo_bounded
returns-in-Ok-clause-undo_bounded c =
    (recorded_within (bounds_of c.args.limits c.args.text.now c.args.patch.now) c.args.text.now c.args.patch.now (string_bytes c.in-Ok.text) (string_bytes c.in_ok-undo-in-Ok.undo) c.as_slice.result.now c.run.new.log.cost
    (subst (HasTexts c.args.patch.now) (sym c.as_slice.ensures.value) c.in_ok-operations.ensures.read) (rw c.in_ok-document.ensures.text at c.in-Ok.ensures.accepted)
    (undo_kept (Some (bounds_of c.args.limits c.args.text.now c.args.patch.now)) c.args.text.now (string_bytes c.in-Ok.text) (string_bytes c.in_ok-undo-in-Ok.undo) c.as_slice.result.now c.new-log.result c.run.new.log c.new-log.ensures.kept (rw c.in_ok-document.ensures.text at c.in-Ok.ensures.logged) c.in_ok-undo-in-Ok.ensures)).1

pub returns-in-Ok-clause-within : goal.returns-in-Ok-clause-within
returns-in-Ok-clause-within c =
    let (us, recorded, is) = (undo_kept (Some (bounds_of c.args.limits c.args.text.now c.args.patch.now)) c.args.text.now (string_bytes c.in-Ok.text) (string_bytes c.in_ok-undo-in-Ok.undo) c.as_slice.result.now c.new-log.result c.run.new.log c.new-log.ensures.kept (rw c.in_ok-document.ensures.text at c.in-Ok.ensures.logged) c.in_ok-undo-in-Ok.ensures) in
    (c.as_slice.result.now, us, c.run.new.log.cost, (subst (HasTexts c.args.patch.now) (sym c.as_slice.ensures.value) c.in_ok-operations.ensures.read), (recorded.0, recorded.1.0, recorded.1.1), is)
