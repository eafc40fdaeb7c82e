use Rattle.std.proofs.Common.{◌≡◌, ◌<◌, length, get_or, refl, sym, ◌∙◌, arith}
use Rattle.std.proofs.lemmas.List.{get_or_default}
use Rattle.std.proofs.lemmas.Str.{IsCharBoundary-after_ascii}
use Rattle.json_text.proofs.Rows.Objects.{leaf_byte}
use Rattle.json_text.proofs.Rows.Trees.{array_row, object_row}
use Rattle.json_text.proofs.Tokens.{array_opens, object_opens, opens_between}
use Rattle.json_text.proofs.parts.row_in.Goals as goal

pub returns-then-first-eq123-clause-row : goal.returns-then-first-eq123-clause-row
returns-then-first-eq123-clause-row c = λ v says.
    let t = c.args.text.now in
    let o = c.whitespace_end-open.result in
    let here : o < length t = c.byte_at-first.ensures.within (λ z. absurd (omega (arith, z, c.if-first-eq123.true))) in
    let brace : get_or t o 32 ≡ 123 = sym c.byte_at-first.ensures.value ∙ c.if-first-eq123.true in
    object_row t v o (get_or_default t o 0 32 here ∙ brace) (opens_between t o 123 here brace refl (c.whitespace_end-open.ensures.between refl)) (object_opens t v o here brace c.whitespace_end-open.ensures.left says)

pub returns-then-first-eq123-clause-boundary : goal.returns-then-first-eq123-clause-boundary
returns-then-first-eq123-clause-boundary c = λ u.
    let t = c.args.text.now in
    let o = c.whitespace_end-open.result in
    let here : o < length t = c.byte_at-first.ensures.within (λ z. absurd (omega (arith, z, c.if-first-eq123.true))) in
    let brace : get_or t o 0 ≡ 123 = get_or_default t o 0 32 here ∙ sym c.byte_at-first.ensures.value ∙ c.if-first-eq123.true in
    IsCharBoundary-after_ascii t o u here (omega (arith, brace))

pub returns-then-first-ne91-clause-row : goal.returns-then-first-ne91-clause-row
returns-then-first-ne91-clause-row c = λ v says.
    leaf_byte c.args.text.now v c.whitespace_end-open.result c.whitespace_end-open.ensures.stops (λ e. c.if-first-eq123.false (c.byte_at-first.ensures.value ∙ e)) (λ e. c.if-first-ne91.true (c.byte_at-first.ensures.value ∙ e)) c.whitespace_end-open.ensures.left says

pub returns-clause-row : goal.returns-clause-row
returns-clause-row c = λ v says.
    let t = c.args.text.now in
    let o = c.whitespace_end-open.result in
    let here : o < length t = c.byte_at-first.ensures.within (λ z. absurd (omega (arith, z, c.if-first-ne91.false))) in
    let bracket : get_or t o 32 ≡ 91 = sym c.byte_at-first.ensures.value ∙ c.if-first-ne91.false in
    array_row t v o (get_or_default t o 0 32 here ∙ bracket) (opens_between t o 91 here bracket refl (c.whitespace_end-open.ensures.between refl)) (array_opens t v o here bracket c.whitespace_end-open.ensures.left says)

pub returns-clause-boundary : goal.returns-clause-boundary
returns-clause-boundary c = λ u.
    let t = c.args.text.now in
    let o = c.whitespace_end-open.result in
    let here : o < length t = c.byte_at-first.ensures.within (λ z. absurd (omega (arith, z, c.if-first-ne91.false))) in
    let bracket : get_or t o 0 ≡ 91 = get_or_default t o 0 32 here ∙ sym c.byte_at-first.ensures.value ∙ c.if-first-ne91.false in
    IsCharBoundary-after_ascii t o u here (omega (arith, bracket))
