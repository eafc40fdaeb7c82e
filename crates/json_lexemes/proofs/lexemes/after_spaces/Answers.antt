use Rattle.std.proofs.Common.{◌≡◌, ◌<◌, ◌∷◌, length, get_or, sym, ap, ◌∙◌, arith, true}
use Rattle.json.specs.Word.{is_operator}
use Rattle.json.specs.Lex.{operator_lexeme}
use Rattle.std.proofs.lemmas.Str.{IsCharBoundary-after_ascii}
use Rattle.json_lexemes.proofs.Ascii.{operator_ascii}
use Rattle.json_lexemes.proofs.lexemes.after_spaces.Goals.{else-i-text-via-then-i-text+else-text-i, else-i-text-via-else-i-text}
use Rattle.json_lexemes.proofs.FirstBytes.{operator_by_kind}
use Rattle.json_lexemes.proofs.Steps.{operator_left, operator_end}
use Rattle.json_lexemes.proofs.lexemes.after_spaces.Goals as goal

pub returns-then-text-i-clause-left : goal.returns-then-text-i-clause-left
returns-then-text-i-clause-left c =
    let t = c.args.text.now in
    sym c.whitespace_end-i.ensures.left ∙ operator_left t c.whitespace_end-i.result c.args.c c.if-i-text.true c.if-text-i.true c.requires.operator
    ∙ ap (λ l. operator_lexeme c.args.c ∷ l) (sym c.whitespace_end.ensures.left)

pub returns-then-text-i-clause-begins : goal.returns-then-text-i-clause-begins
returns-then-text-i-clause-begins c = λ e.
    let t = c.args.text.now in
    let o : is_operator (get_or t c.whitespace_end-i.result 0) ≡ true = ap is_operator c.if-text-i.true ∙ c.requires.operator in
    c.whitespace_end.ensures.between (operator_end t c.whitespace_end-i.result c.if-i-text.true o (c.whitespace_end-i.ensures.end e))

pub returns-else-i-text-clause-none : goal.returns-else-i-text-clause-none
returns-else-i-text-clause-none c = λ ls e.
    let t = c.args.text.now in
    let i = c.whitespace_end-i.result in
    let b : (i < length t) × (get_or t i 0 ≡ c.args.c) = operator_by_kind t i c.args.c ls c.whitespace_end-i.ensures.stops c.requires.operator (c.whitespace_end-i.ensures.left ∙ e) in
    elim c.else-i-text.branch [
      | else-i-text-via-then-i-text+else-text-i w ↦ w.if-text-i.false b.1
      | else-i-text-via-else-i-text w ↦ absurd (omega (arith, b.0, w.if-i-text.false))
    ]

pub returns-then-text-i-clause-boundary : goal.returns-then-text-i-clause-boundary
returns-then-text-i-clause-boundary c = λ u. c.whitespace_end.ensures.boundary u (IsCharBoundary-after_ascii c.args.text.now c.whitespace_end-i.result u c.if-i-text.true (operator_ascii _ (ap is_operator c.if-text-i.true ∙ c.requires.operator)))
