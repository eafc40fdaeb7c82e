use Rattle.std.proofs.Common.{not, ◌&&◌, sym, ap, ◌∙◌, get_or}
use Rattle.json_lexemes.specs.Blocks.{is_opening, is_closing}
use Rattle.json_lexemes.proofs.Bits.{and_false, test_zero}
use Rattle.json_lexemes.proofs.masks.unmarked.Goals as goal

pub returns-then-inside-clause-opens : goal.returns-then-inside-clause-opens
returns-then-inside-clause-opens c = λ i h. let x = get_or c.args.v i 0 in test_zero i ∙ sym (ap (λ b. is_opening x && not b) c.if-inside.true ∙ and_false (is_opening x))

pub returns-then-inside-clause-shuts : goal.returns-then-inside-clause-shuts
returns-then-inside-clause-shuts c = λ i h. let x = get_or c.args.v i 0 in test_zero i ∙ sym (ap (λ b. is_closing x && not b) c.if-inside.true ∙ and_false (is_closing x))
