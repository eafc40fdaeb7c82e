use Rattle.json_patch_edit.proofs.Common.{refl, sym, ◌∙◌}
use Rattle.json_patch_edit.proofs.Exchanges.{clears_not, clears}
use Rattle.json_patch_edit.proofs.edits.clear_last.Goals as goal

pub returns-then-not-is_mark-clause-makes : goal.returns-then-not-is_mark-clause-makes
returns-then-not-is_mark-clause-makes c = λ t.
    ((refl, clears_not c.args.items.now.items c.deref.result.now c.in-Some.last.now _ c.deref.ensures.value c.in-Some.ensures.item.3.0 c.in-Some.ensures.item.1 (sym c.is_mark.ensures ∙ c.if-not-is_mark.true)), refl, refl)

pub returns-clause-makes : goal.returns-clause-makes
returns-clause-makes c = λ t.
    (clears c.args.items.now c.deref.result.now _ c.in-Some.last.now c.deref.ensures.value c.in-Some.ensures.item.3.0 c.in-Some.ensures.item.1 (sym c.is_mark.ensures ∙ c.if-not-is_mark.false) c.pop.ensures.rest, tt)
