use Rattle.std.proofs.Common.{◌≡◌, ◌∷◌, get_or, sym, ap, ◌∙◌, true}
use Rattle.json.specs.Word.{is_operator}
use Rattle.json.specs.Lex.{operator_lexeme}
use Rattle.std.proofs.lemmas.Str.{IsCharBoundary-after_ascii}
use Rattle.json_lexemes.proofs.Ascii.{operator_ascii}
use Rattle.json_lexemes.proofs.Steps.{operator_left, operator_end}
use Rattle.json_lexemes.proofs.lexemes.after.Goals as goal

pub returns-then-text-from-clause-left : goal.returns-then-text-from-clause-left
returns-then-text-from-clause-left c =
    operator_left c.args.text.now c.args.from c.args.c c.if-from-text.true c.if-text-from.true c.requires.operator ∙ ap (λ l. operator_lexeme c.args.c ∷ l) (sym c.whitespace_end.ensures.left)

pub returns-then-text-from-clause-begins : goal.returns-then-text-from-clause-begins
returns-then-text-from-clause-begins c = λ e.
    let t = c.args.text.now in
    let o : is_operator (get_or t c.args.from 0) ≡ true = ap is_operator c.if-text-from.true ∙ c.requires.operator in
    c.whitespace_end.ensures.between (operator_end t c.args.from c.if-from-text.true o e)

pub returns-then-text-from-clause-boundary : goal.returns-then-text-from-clause-boundary
returns-then-text-from-clause-boundary c = λ u. c.whitespace_end.ensures.boundary u (IsCharBoundary-after_ascii c.args.text.now c.args.from u c.if-from-text.true (operator_ascii _ (ap is_operator c.if-text-from.true ∙ c.requires.operator)))
