use Rattle.std.proofs.Common.{◌≡◌, ◌∷◌, [], List, length, refl, sym, ap, subst, ◌∙◌, rules, arith}
use Rattle.std.proofs.lemmas.List.{map-append}
use Rattle.std.specs.Vec.Iter.{into_iter_items}
use Rattle.json_patch.specs.Operation.{Operation, operation_of, operations}
use Rattle.json_patch_diff.proofs.Guards.{Along, ended, next, starts}
use Rattle.json_patch_diff.proofs.guarded.guard.Goals as goal

nothing_left : {X : Type 0} (l : List X) → length l ≡ 0 → l ≡ []
nothing_left [] h = refl
nothing_left (x ∷ xs) h = absurd (omega arith)

pub loop-change-init : goal.loop-change-init
loop-change-init c = let none : operations c.new-guarded.result.items ≡ [] = search rules in record {
  along = λ d h i. subst (λ es. Along d (operations c.args.changes.items) (operations es) (operations c.args.undo.items) (operations c.new-guarded.result.items)) (sym c.into_iter-change-iterator.ensures.into_iter_gives.0)
      (subst {A = List Operation} (λ done. Along d (operations c.args.changes.items) (operations c.args.changes.items) (operations c.args.undo.items) done) (sym none) (starts d (operations c.args.changes.items) (operations c.args.undo.items) h i));
  len = search rules;
}

pub loop-change-preserved : goal.loop-change-preserved
loop-change-preserved c =
    let at = c.loop-change in
    let x = c.in-Some.change in
    let steps : into_iter_items at.change-iterator ≡ x ∷ into_iter_items c.next.new.self = c.in-Some.ensures.steps.0 in
    record {
      along = λ d h i. next d _ _ _ _ (operation_of x) at.undo.items c.pop-undone_by.new.self.items c.pop-undone_by.result c.pop-undone_by.ensures.items ((λ some. (let lt = c.pop-undone_by.ensures.variant.0 some in omega arith)), λ lt. c.pop-undone_by.ensures.variant.1 (omega arith)) (search (rules, map-append))
          (subst (λ es. Along d (operations c.args.changes.items) (operations es) (operations at.undo.items) (operations at.guarded.items)) steps (at.invariant.along d h i));
      len = let was = at.invariant.len in
          let gone = c.in-Some.ensures.steps.1 in
          let short = ap length steps in
          omega arith;
    }

pub returns : goal.returns
returns c =
    let at = c.loop-change in
    let none = c.in-None.ensures.steps in
    let empty : into_iter_items at.change-iterator ≡ [] = nothing_left _ (sym at.invariant.len ∙ none.0) in
    λ d h i. ended d _ _ _ (subst (λ es. Along d (operations c.args.changes.items) (operations es) (operations at.undo.items) (operations at.guarded.items)) empty (at.invariant.along d h i))
