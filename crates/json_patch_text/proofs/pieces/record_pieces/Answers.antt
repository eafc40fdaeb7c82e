use Rattle.std.proofs.Common.{Some, string_bytes, refl, sym, subst}
use Rattle.json_pieces.specs.Whole.{text_of}
use Rattle.json_patch_text.specs.Bounded.{most_of}
use Rattle.json_patch_text.specs.Patched.{HasTexts}
use Rattle.json_patch_text.proofs.Bounded.{last_within, within_made}
use Rattle.json_patch_text.proofs.WayBack.{bounds_of, record_starts, recorded_run, undo_kept}
use Rattle.json_patch_text.proofs.Within.{record_fault}
use Rattle.json_patch_text.proofs.pieces.record_pieces.Goals as goal

pub run_pieces-requires-clause-under : goal.run_pieces-requires-clause-under
run_pieces-requires-clause-under c =
    rw c.len.ensures (record_starts c.args.limits (text_of c.args.pieces.now) c.args.patch.now (text_of c.args.pieces.now) c.in_ok-operations.operations.items _ refl c.requires.depth c.requires.shallow c.in_ok-operations.ensures.read)

pub returns-clause-fault : goal.returns-clause-fault
returns-clause-fault c =
    record_fault (bounds_of c.args.limits (text_of c.args.pieces.now) c.args.patch.now) (text_of c.args.pieces.now) c.args.patch.now c.as_slice.result.now c.in-Err.fault refl (subst (HasTexts c.args.patch.now) (sym c.as_slice.ensures.value) c.in_ok-operations.ensures.read) (rw (c.len.ensures, c.new-log.ensures.kept) at c.in-Err.ensures.fault)

pub returns-in-Ok-to_text-clause-kept : goal.returns-in-Ok-to_text-clause-kept
returns-in-Ok-to_text-clause-kept c = (c.as_slice.result.now, (subst (HasTexts c.args.patch.now) (sym c.as_slice.ensures.value) c.in_ok-operations.ensures.read), within_made c.args.limits (most_of (bounds_of c.args.limits (text_of c.args.pieces.now) c.args.patch.now)) (text_of c.args.pieces.now) c.as_slice.result.now (text_of c.run_pieces.new.pieces) c.run_pieces.new.log.cost (rw c.len.ensures at c.in-Ok.ensures.made).0)

pub returns-in-Ok-to_text-clause-bounded : goal.returns-in-Ok-to_text-clause-bounded
returns-in-Ok-to_text-clause-bounded c = last_within c.args.limits (most_of (bounds_of c.args.limits (text_of c.args.pieces.now) c.args.patch.now)) (text_of c.args.pieces.now) c.as_slice.result.now (text_of c.run_pieces.new.pieces) c.run_pieces.new.log.cost (rw c.len.ensures at c.in-Ok.ensures.made).0

pub returns-in-Ok-to_text-clause-recorded : goal.returns-in-Ok-to_text-clause-recorded
returns-in-Ok-to_text-clause-recorded c =
    (recorded_run c.args.limits (text_of c.args.pieces.now) c.args.patch.now (text_of c.run_pieces.new.pieces) (string_bytes c.in-Ok-to_text.undo) c.as_slice.result.now c.run_pieces.new.log.cost
    (subst (HasTexts c.args.patch.now) (sym c.as_slice.ensures.value) c.in_ok-operations.ensures.read) c.in-Ok.ensures.accepted
    (undo_kept (Some (bounds_of c.args.limits (text_of c.args.pieces.now) c.args.patch.now)) (text_of c.args.pieces.now) (text_of c.run_pieces.new.pieces) (string_bytes c.in-Ok-to_text.undo) c.as_slice.result.now c.new-log.result c.run_pieces.new.log c.new-log.ensures.kept (rw c.len.ensures at c.in-Ok.ensures.logged) c.in-Ok-to_text.ensures)).0

pub returns-in-Ok-to_text-clause-leads_back : goal.returns-in-Ok-to_text-clause-leads_back
returns-in-Ok-to_text-clause-leads_back c =
    (recorded_run c.args.limits (text_of c.args.pieces.now) c.args.patch.now (text_of c.run_pieces.new.pieces) (string_bytes c.in-Ok-to_text.undo) c.as_slice.result.now c.run_pieces.new.log.cost
    (subst (HasTexts c.args.patch.now) (sym c.as_slice.ensures.value) c.in_ok-operations.ensures.read) c.in-Ok.ensures.accepted
    (undo_kept (Some (bounds_of c.args.limits (text_of c.args.pieces.now) c.args.patch.now)) (text_of c.args.pieces.now) (text_of c.run_pieces.new.pieces) (string_bytes c.in-Ok-to_text.undo) c.as_slice.result.now c.new-log.result c.run_pieces.new.log c.new-log.ensures.kept (rw c.len.ensures at c.in-Ok.ensures.logged) c.in-Ok-to_text.ensures)).1

pub returns-in-Ok-to_text-clause-within : goal.returns-in-Ok-to_text-clause-within
returns-in-Ok-to_text-clause-within c =
    (recorded_run c.args.limits (text_of c.args.pieces.now) c.args.patch.now (text_of c.run_pieces.new.pieces) (string_bytes c.in-Ok-to_text.undo) c.as_slice.result.now c.run_pieces.new.log.cost
    (subst (HasTexts c.args.patch.now) (sym c.as_slice.ensures.value) c.in_ok-operations.ensures.read) c.in-Ok.ensures.accepted
    (undo_kept (Some (bounds_of c.args.limits (text_of c.args.pieces.now) c.args.patch.now)) (text_of c.args.pieces.now) (text_of c.run_pieces.new.pieces) (string_bytes c.in-Ok-to_text.undo) c.as_slice.result.now c.new-log.result c.run_pieces.new.log c.new-log.ensures.kept (rw c.len.ensures at c.in-Ok.ensures.logged) c.in-Ok-to_text.ensures)).2

pub returns-in-Ok-to_text-clause-undo_bounded : goal.returns-in-Ok-to_text-clause-undo_bounded
returns-in-Ok-to_text-clause-undo_bounded c =
    (recorded_run c.args.limits (text_of c.args.pieces.now) c.args.patch.now (text_of c.run_pieces.new.pieces) (string_bytes c.in-Ok-to_text.undo) c.as_slice.result.now c.run_pieces.new.log.cost
    (subst (HasTexts c.args.patch.now) (sym c.as_slice.ensures.value) c.in_ok-operations.ensures.read) c.in-Ok.ensures.accepted
    (undo_kept (Some (bounds_of c.args.limits (text_of c.args.pieces.now) c.args.patch.now)) (text_of c.args.pieces.now) (text_of c.run_pieces.new.pieces) (string_bytes c.in-Ok-to_text.undo) c.as_slice.result.now c.new-log.result c.run_pieces.new.log c.new-log.ensures.kept (rw c.len.ensures at c.in-Ok.ensures.logged) c.in-Ok-to_text.ensures)).3
