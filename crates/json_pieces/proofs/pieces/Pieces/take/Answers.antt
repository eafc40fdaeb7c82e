use Rattle.std.proofs.Common.{◌∙◌, ap, false, subst, sym, true}
use Rattle.std.specs.Prelude.{is_some}
use Rattle.json.specs.Json.{Json}
use Rattle.json_lexemes.specs.Spelled.{IsShallowText}
use Rattle.json_text.proofs.Readable.{less_says}
use Rattle.json_pieces.proofs.Calls.{removed_at, taken_out}
use Rattle.json_pieces.proofs.pieces.Pieces.take.Goals as goal

pub returns-in-Some-2-clause-removed : goal.returns-in-Some-2-clause-removed
returns-in-Some-2-clause-removed c =
    removed_at _ _ c.as_str.result _ _ _ _ c.in_ok-node.field-0 true c.requires.shallow c.in-Some.ensures.last (c.as_str.ensures.value ∙ c.in_ok-name.ensures) c.tokens.ensures.value (sym (ap is_some c.in-Some-2.is)) c.in_ok-node.ensures.makes

pub returns-in-Some-2-clause-taken : goal.returns-in-Some-2-clause-taken
returns-in-Some-2-clause-taken c =
    (taken_out _ _ c.as_str.result _ _ _ _ c.in_ok-node.field-0 c.in-Some-2.node c.in-Some-2.is c.requires.shallow c.in-Some.ensures.last (c.as_str.ensures.value ∙ c.in_ok-name.ensures) c.tokens.ensures.value c.in_ok-node.ensures.makes c.in_ok-node.ensures.sound).0

pub returns-in-Some-2-clause-value : goal.returns-in-Some-2-clause-value
returns-in-Some-2-clause-value c =
    (taken_out _ _ c.as_str.result _ _ _ _ c.in_ok-node.field-0 c.in-Some-2.node c.in-Some-2.is c.requires.shallow c.in-Some.ensures.last (c.as_str.ensures.value ∙ c.in_ok-name.ensures) c.tokens.ensures.value c.in_ok-node.ensures.makes c.in_ok-node.ensures.sound).1

pub returns-clause-removed : goal.returns-clause-removed
returns-clause-removed c =
    removed_at _ _ c.as_str.result _ _ _ _ c.in_ok-node.field-0 false c.requires.shallow c.in-Some.ensures.last (c.as_str.ensures.value ∙ c.in_ok-name.ensures) c.tokens.ensures.value (sym (ap is_some c.in-None.is)) c.in_ok-node.ensures.makes

pub returns-in-Some-2-clause-shallow : goal.returns-in-Some-2-clause-shallow
returns-in-Some-2-clause-shallow c =
    less_says _ _ _ (removed_at _ _ c.as_str.result _ _ _ _ c.in_ok-node.field-0 true c.requires.shallow c.in-Some.ensures.last (c.as_str.ensures.value ∙ c.in_ok-name.ensures) c.tokens.ensures.value (sym (ap is_some c.in-Some-2.is)) c.in_ok-node.ensures.makes)

pub returns-clause-shallow : goal.returns-clause-shallow
returns-clause-shallow c =
    let same = (removed_at _ _ c.as_str.result _ _ _ _ c.in_ok-node.field-0 false c.requires.shallow c.in-Some.ensures.last (c.as_str.ensures.value ∙ c.in_ok-name.ensures) c.tokens.ensures.value (sym (ap is_some c.in-None.is)) c.in_ok-node.ensures.makes).1 in
    subst (λ t. (j : Json) × IsShallowText t j) (sym same) c.requires.shallow
