use Rattle.std.proofs.Common.{sym, subst, refl}
use Rattle.json_patch_text.specs.Patched.{HasTexts}
use Rattle.json_patch_text.proofs.Within.{all_within, bounded, kept, run_within}
use Rattle.json_patch_text.proofs.patch.patched.Goals as goal

pub returns-clause-kept : goal.returns-clause-kept
returns-clause-kept c =
    kept _ c.args.text.now c.args.patch.now c.as_slice.result.now c.run.new.log.cost c.run.result (subst (HasTexts c.args.patch.now) (sym c.as_slice.ensures.value) c.in_ok-operations.ensures.read) (rw c.in_ok-document.ensures.text at c.run.ensures.made)

pub returns-clause-within : goal.returns-clause-within
returns-clause-within c =
    all_within _ c.args.text.now c.args.patch.now c.as_slice.result.now c.run.new.log.cost c.run.result refl (subst (HasTexts c.args.patch.now) (sym c.as_slice.ensures.value) c.in_ok-operations.ensures.read) (rw c.in_ok-document.ensures.text at c.run.ensures.made)

pub returns-clause-bounded : goal.returns-clause-bounded
returns-clause-bounded c = bounded _ c.args.text.now c.as_slice.result.now c.run.new.log.cost c.run.result (rw c.in_ok-document.ensures.text at c.run.ensures.made)

pub returns-clause-fault : goal.returns-clause-fault
returns-clause-fault c =
    run_within _ c.args.text.now c.args.patch.now c.as_slice.result.now c.run.result refl (subst (HasTexts c.args.patch.now) (sym c.as_slice.ensures.value) c.in_ok-operations.ensures.read) (rw (c.in_ok-document.ensures.text, c.new-log.ensures.kept) at c.run.ensures.fault)
