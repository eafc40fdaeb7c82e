use Rattle.std.proofs.Common.{◌∙◌, ap, arith, length, subst, sym}
use Rattle.json.specs.Json.{Json}
use Rattle.json_lexemes.specs.Spelled.{IsShallowText}
use Rattle.json_text.specs.Cuts.{IsWhitespace}
use Rattle.json_pieces.proofs.Calls.{made_text, made_whole}
use Rattle.json_pieces.proofs.pieces.Pieces.owned.Goals as goal

pub returns-clause-pieces : goal.returns-clause-pieces
returns-clause-pieces c =
    let (j, shallow) = c.as_str-text.ensures.shallow in
    let split = c.split_off_whitespace.ensures in
    let text = made_text c.in_ok-before.before c.in_ok-made.field-0 c.in_ok-behind.behind _ _ _ _ c.in_ok-before.ensures c.in_ok-made.ensures c.in_ok-behind.ensures split.whole in
    record {
      before = subst IsWhitespace (sym c.in_ok-before.ensures) split.whitespace.0;
      root = made_whole c.in_ok-made.field-0 _ _ _ j c.in_ok-made.ensures (split.value j shallow.0);
      behind = subst IsWhitespace (sym c.in_ok-behind.ensures) split.whitespace.1;
      fits = omega (arith, ap length text);
      back = tt;
    }

pub returns-clause-text : goal.returns-clause-text
returns-clause-text c =
    made_text c.in_ok-before.before c.in_ok-made.field-0 c.in_ok-behind.behind _ _ _ _ c.in_ok-before.ensures c.in_ok-made.ensures c.in_ok-behind.ensures c.split_off_whitespace.ensures.whole ∙ c.as_str-text.ensures.text

pub returns-clause-shallow : goal.returns-clause-shallow
returns-clause-shallow c =
    let text = made_text c.in_ok-before.before c.in_ok-made.field-0 c.in_ok-behind.behind _ _ _ _ c.in_ok-before.ensures c.in_ok-made.ensures c.in_ok-behind.ensures c.split_off_whitespace.ensures.whole in
    subst (λ t. (j : Json) × IsShallowText t j) (sym text) c.as_str-text.ensures.shallow
