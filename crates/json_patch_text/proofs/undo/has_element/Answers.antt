use Rattle.std.proofs.Common.{◌∙◌, ◌<◌, ◌^◌, ◌++◌, ◌∷◌, [], ap, arith, subst, sym}
use Rattle.std.specs.Bool.{Decides}
use Rattle.jsonptr.specs.PlaceLaws.{token_is_decimal}
use Rattle.jsonptr.specs.Pointers.{tokens_of}
use Rattle.json_patch_text.specs.Changed.{count}
use Rattle.json_patch_text.proofs.Undone.{element_looked}
use Rattle.json_patch_text.proofs.undo.has_element.Goals as goal

pub returns-clause-element : goal.returns-clause-element
returns-clause-element c i js said at =
    let small : c.args.number < 2 ^ 64 = omega arith in
    subst (λ b. Decides b (c.args.number < count js)) (sym c.is_some.ensures)
    (element_looked i (tokens_of c.args.place) (tokens_of c.as_pointer.result) c.as_str.result.now js c.args.number c.in_ok-found.found
    (c.as_pointer.ensures ∙ c.in_ok-push_back.ensures.ok ∙ ap (λ P. P ++ c.as_str.result.now ∷ []) c.in_ok-element.ensures)
    (c.as_str.ensures.value ∙ c.in_ok-name.ensures.ok ∙ sym (token_is_decimal c.args.number small)) at (c.in_ok-found.ensures.shape i said))
