use Rattle.std.proofs.Common.{◌≡◌, false, get_or, sym, ap, ◌∙◌, inl, inr}
use Rattle.json.specs.Word.{is_operator}
use Rattle.std.proofs.lemmas.Str.{IsCharBoundary-after_ascii}
use Rattle.json_lexemes.proofs.Ascii.{operator_ascii}
use Rattle.json_lexemes.proofs.Steps.{quote_first, begins_here, quote_opens, string_has_end, operator_first, operator_has_end, word_first, word_opens, no_space_before}
use Rattle.json_lexemes.proofs.lexemes.lexeme_end.Goals as goal

pub returns-then-c-eq34-clause-steps : goal.returns-then-c-eq34-clause-steps
returns-then-c-eq34-clause-steps c = quote_first c.args.text.now c.args.from c.string_end.result c.requires.within c.if-c-eq34.true c.string_end.ensures.left

pub returns-then-c-eq34-clause-end : goal.returns-then-c-eq34-clause-end
returns-then-c-eq34-clause-end c = λ e.
    let t = c.args.text.now in
    let i = c.args.from in
    let m = begins_here t i c.requires.within (ap is_operator c.if-c-eq34.true) c.requires.begins e in
    string_has_end t c.string_end.result (c.string_end.ensures.mode (quote_opens t i c.requires.within c.if-c-eq34.true m))

pub returns-then-is_operator-clause-steps : goal.returns-then-is_operator-clause-steps
returns-then-is_operator-clause-steps c = operator_first c.args.text.now c.args.from c.requires.within (sym c.is_operator.ensures ∙ c.if-is_operator.true)

pub returns-then-is_operator-clause-end : goal.returns-then-is_operator-clause-end
returns-then-is_operator-clause-end c = λ e. operator_has_end c.args.text.now c.args.from c.requires.within (sym c.is_operator.ensures ∙ c.if-is_operator.true) e

pub returns-else-is_operator-clause-steps : goal.returns-else-is_operator-clause-steps
returns-else-is_operator-clause-steps c =
    word_first c.args.text.now c.args.from c.word_end.result c.requires.within c.if-c-eq34.false (sym c.is_operator.ensures ∙ c.if-is_operator.false) c.requires.begins c.word_end.ensures.left

pub returns-else-is_operator-clause-end : goal.returns-else-is_operator-clause-end
returns-else-is_operator-clause-end c = λ e.
    let t = c.args.text.now in
    let i = c.args.from in
    let o : is_operator (get_or t i 0) ≡ false = sym c.is_operator.ensures ∙ c.if-is_operator.false in
    let m = begins_here t i c.requires.within o c.requires.begins e in (
      inr (inl (c.word_end.ensures.mode (word_opens t i c.requires.within c.if-c-eq34.false o c.requires.begins m), c.word_end.ensures.ended)),
      inl (no_space_before t i c.word_end.result c.word_end.ensures.back c.requires.begins),
    )

pub returns-then-is_operator-clause-boundary : goal.returns-then-is_operator-clause-boundary
returns-then-is_operator-clause-boundary c = λ u. IsCharBoundary-after_ascii c.args.text.now c.args.from u c.requires.within (operator_ascii _ (sym c.is_operator.ensures ∙ c.if-is_operator.true))
