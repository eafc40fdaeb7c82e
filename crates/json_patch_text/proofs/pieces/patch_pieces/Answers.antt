use Rattle.std.proofs.Common.{refl, sym, subst}
use Rattle.std.proofs.lemmas.Result.{IfOk-weaker}
use Rattle.json_pieces.specs.Whole.{text_of}
use Rattle.json_patch_text.specs.Bounded.{most_of}
use Rattle.json_patch_text.specs.Patched.{HasTexts}
use Rattle.json_patch_text.proofs.Bounded.{last_within, within_made}
use Rattle.json_patch_text.proofs.WayBack.{bounds_of}
use Rattle.json_patch_text.proofs.Within.{run_within}
use Rattle.json_patch_text.proofs.pieces.patch_pieces.Goals as goal

pub returns-clause-kept : goal.returns-clause-kept
returns-clause-kept c =
    IfOk-weaker c.run_pieces.result _ _ (λ none made. (c.as_slice.result.now, (subst (HasTexts c.args.patch.now) (sym c.as_slice.ensures.value) c.in_ok-operations.ensures.read), within_made c.args.limits (most_of (bounds_of c.args.limits (text_of c.args.pieces.now) c.args.patch.now)) (text_of c.args.pieces.now) c.as_slice.result.now (text_of c.run_pieces.new.pieces) c.run_pieces.new.log.cost made.0)) (rw c.len.ensures at c.run_pieces.ensures.made)

pub returns-clause-within : goal.returns-clause-within
returns-clause-within c = IfOk-weaker c.run_pieces.result _ _ (λ none made. (c.as_slice.result.now, c.run_pieces.new.log.cost, (subst (HasTexts c.args.patch.now) (sym c.as_slice.ensures.value) c.in_ok-operations.ensures.read), made)) (rw c.len.ensures at c.run_pieces.ensures.made)

pub returns-clause-bounded : goal.returns-clause-bounded
returns-clause-bounded c = IfOk-weaker c.run_pieces.result _ _ (λ none made. last_within c.args.limits (most_of (bounds_of c.args.limits (text_of c.args.pieces.now) c.args.patch.now)) (text_of c.args.pieces.now) c.as_slice.result.now (text_of c.run_pieces.new.pieces) c.run_pieces.new.log.cost made.0) (rw c.len.ensures at c.run_pieces.ensures.made)

pub returns-clause-fault : goal.returns-clause-fault
returns-clause-fault c = run_within (bounds_of c.args.limits (text_of c.args.pieces.now) c.args.patch.now) (text_of c.args.pieces.now) c.args.patch.now c.as_slice.result.now c.run_pieces.result refl (subst (HasTexts c.args.patch.now) (sym c.as_slice.ensures.value) c.in_ok-operations.ensures.read) (rw (c.len.ensures, c.new-log.ensures.kept) at c.run_pieces.ensures.fault)
