use Rattle.std.proofs.Common.{◌≡◌, ◌<◌, ◌+◌, length, get_or, refl, sym, ap, ◌∙◌, arith}
use Rattle.std.proofs.lemmas.List.{get_or_default}
use Rattle.json.specs.Word.{is_operator}
use Rattle.json_lexemes.proofs.Elements.{rest_passed, no_rest}
use Rattle.json_lexemes.proofs.Steps.{operator_left, operator_end}
use Rattle.json_lexemes.proofs.values.array_end.Goals as goal

pub returns-then-byte_at-eq44-clause-left : goal.returns-then-byte_at-eq44-clause-left
returns-then-byte_at-eq44-clause-left c = λ js ls e.
    let t = c.args.text.now in
    let i = c.whitespace_end-i.result in
    let h : i < length t = c.byte_at.ensures.within (λ z. absurd (omega (arith, z, c.if-byte_at-eq44.true))) in
    let b : get_or t i 0 ≡ 44 = get_or_default t i 0 32 h ∙ sym c.byte_at.ensures.value ∙ c.if-byte_at-eq44.true in
    rest_passed t js ls i (i + 1) c.container_end.result (operator_left t i 44 h b refl) c.container_end.ensures.left (c.whitespace_end-i.ensures.left ∙ e)

pub returns-then-byte_at-eq44-clause-end : goal.returns-then-byte_at-eq44-clause-end
returns-then-byte_at-eq44-clause-end c =
    let t = c.args.text.now in
    let i = c.whitespace_end-i.result in
    let h : i < length t = c.byte_at.ensures.within (λ z. absurd (omega (arith, z, c.if-byte_at-eq44.true))) in
    let b : get_or t i 0 ≡ 44 = get_or_default t i 0 32 h ∙ sym c.byte_at.ensures.value ∙ c.if-byte_at-eq44.true in
    (c.container_end.ensures.end (operator_end t i h (ap is_operator b) (c.whitespace_end-i.ensures.end c.requires.ends))).0

pub returns-else-byte_at-eq44-clause-left : goal.returns-else-byte_at-eq44-clause-left
returns-else-byte_at-eq44-clause-left c = λ js ls e.
    no_rest c.args.text.now js ls c.whitespace_end-i.result c.behind.result c.whitespace_end-i.ensures.stops (λ q. c.if-byte_at-eq44.false (c.byte_at.ensures.value ∙ q)) c.behind.ensures.left (c.whitespace_end-i.ensures.left ∙ e)
