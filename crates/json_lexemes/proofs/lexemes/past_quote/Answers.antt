use Rattle.std.proofs.Common.{◌≡◌, true, false, drop, inl, inr, sym, ap, ◌∙◌}
use Rattle.json.specs.Word.{is_operator, is_space}
use Rattle.json.specs.Lex.{lex}
use Rattle.json_lexemes.specs.Runs.{goes_on, mode_of}
use Rattle.json_lexemes.proofs.Steps.{word_passes, word_mode, quote_first, quote_opens, string_has_end}
use Rattle.json_lexemes.proofs.Runs.{passes_on, passes_same, flat_quote}
use Rattle.json_lexemes.proofs.lexemes.past_quote.Goals as goal

pub returns-then-goes_on-clause-passes : goal.returns-then-goes_on-clause-passes
returns-then-goes_on-clause-passes c =
    let t = c.args.text.now in
    let i = c.args.at in
    let g : goes_on t c.args.from i ≡ true = sym c.goes_on.ensures ∙ c.if-goes_on.true in
    passes_same _ _ (ap (λ b. lex (mode_of b) (drop i t)) g ∙ word_passes t i c.requires.within (ap is_operator c.requires.quote) (ap is_space c.requires.quote) ∙ sym c.word_end.ensures.left)

pub returns-then-goes_on-clause-end : goal.returns-then-goes_on-clause-end
returns-then-goes_on-clause-end c = λ m.
    let t = c.args.text.now in
    let i = c.args.at in
    let g : goes_on t c.args.from i ≡ true = sym c.goes_on.ensures ∙ c.if-goes_on.true in
    inr (inl (c.word_end.ensures.mode (word_mode t i c.requires.within (ap is_operator c.requires.quote) (ap is_space c.requires.quote) (m ∙ ap mode_of g)), c.word_end.ensures.ended))

pub returns-else-goes_on-clause-passes : goal.returns-else-goes_on-clause-passes
returns-else-goes_on-clause-passes c =
    let t = c.args.text.now in
    let i = c.args.at in
    let g : goes_on t c.args.from i ≡ false = sym c.goes_on.ensures ∙ c.if-goes_on.false in
    passes_on _ _ _ (passes_same _ _ (ap (λ b. lex (mode_of b) (drop i t)) g))
    (flat_quote t i c.string_end.result c.requires.quote (quote_first t i c.string_end.result c.requires.within c.requires.quote c.string_end.ensures.left))

pub returns-else-goes_on-clause-end : goal.returns-else-goes_on-clause-end
returns-else-goes_on-clause-end c = λ m.
    let t = c.args.text.now in
    let i = c.args.at in
    let g : goes_on t c.args.from i ≡ false = sym c.goes_on.ensures ∙ c.if-goes_on.false in
    (string_has_end t c.string_end.result (c.string_end.ensures.mode (quote_opens t i c.requires.within c.requires.quote (m ∙ ap mode_of g)))).0
