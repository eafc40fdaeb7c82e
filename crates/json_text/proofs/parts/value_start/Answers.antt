use Rattle.std.proofs.Common.{◌≡◌, ◌<◌, length, get_or, sym, ◌∙◌, arith}
use Rattle.json.specs.Lex.{between}
use Rattle.json_lexemes.specs.Places.{mode_at}
use Rattle.json_lexemes.proofs.Members.{string_ends}
use Rattle.json_text.proofs.Rows.Parts.{element_begins, member_begins, none_at_bracket, none_with_no_quote, some_if}
use Rattle.json_text.proofs.parts.value_start.Goals as goal

pub returns-then-first-eq93-clause-value : goal.returns-then-first-eq93-clause-value
returns-then-first-eq93-clause-value c = λ cs e.
    none_at_bracket c.args.text.now c.args.named cs c.args.start c.if-not-named.true (c.byte_at-first.ensures.within (λ z. absurd (omega (arith, z, c.if-first-eq93.true)))) (sym c.byte_at-first.ensures.value ∙ c.if-first-eq93.true) e

pub returns-else-first-eq93-clause-value : goal.returns-else-first-eq93-clause-value
returns-else-first-eq93-clause-value c = λ cs e.
    element_begins c.args.text.now c.args.named cs c.args.start c.if-not-named.true c.requires.solid (λ z. c.if-first-eq93.false (c.byte_at-first.ensures.value ∙ z)) e

pub returns-then-first-ne34-clause-value : goal.returns-then-first-ne34-clause-value
returns-then-first-ne34-clause-value c = λ cs e.
    none_with_no_quote c.args.text.now c.args.named cs c.args.start c.if-not-named.false c.requires.solid (λ z. c.if-first-ne34.true (c.byte_at-first.ensures.value ∙ z)) e

pub returns-clause-value : goal.returns-clause-value
returns-clause-value c = λ cs e.
    let t = c.args.text.now in
    let i = c.args.start in
    let here : i < length t = c.byte_at-first.ensures.within (λ z. absurd (omega (arith, z, c.if-first-ne34.false))) in
    let quote : get_or t i 32 ≡ 34 = sym c.byte_at-first.ensures.value ∙ c.if-first-ne34.false in
    member_begins t c.args.named cs i c.string_end.result c.after.result c.if-not-named.false here quote c.string_end.ensures.left c.after.ensures.left c.after.ensures.none e

pub returns-clause-begins : goal.returns-clause-begins
returns-clause-begins c = λ m.
    let t = c.args.text.now in
    let i = c.args.start in
    let here : i < length t = c.byte_at-first.ensures.within (λ z. absurd (omega (arith, z, c.if-first-ne34.false))) in
    let quote : get_or t i 32 ≡ 34 = sym c.byte_at-first.ensures.value ∙ c.if-first-ne34.false in
    some_if c.after.result _ (λ v. mode_at t v ≡ between) (string_ends t i _ here quote m c.string_end.ensures.mode) c.after.ensures.begins
