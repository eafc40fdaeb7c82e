use Rattle.std.proofs.Common.{◌<◌, length, sym, ◌∙◌, arith, subst}
use Rattle.json_lexemes.specs.Spelled.{Says}
use Rattle.json_text.proofs.Rows.Shapes.{is_object, is_array, is_string, is_atom}
use Rattle.json_text.proofs.listing.Shape.of.Goals as goal

pub returns-then-first-eq123 : goal.returns-then-first-eq123
returns-then-first-eq123 c = λ j says.
    let here : c.whitespace_end.result < length c.as_bytes-bytes.result.now = c.byte_at-first.ensures.within (λ z. absurd (omega (arith, z, c.if-first-eq123.true))) in
    is_object c.as_bytes-bytes.result.now j c.whitespace_end.result here (sym c.byte_at-first.ensures.value ∙ c.if-first-eq123.true) c.whitespace_end.ensures.left (subst (λ u. Says u j) (sym c.as_bytes-bytes.ensures.value) says)

pub returns-then-first-eq91 : goal.returns-then-first-eq91
returns-then-first-eq91 c = λ j says.
    let here : c.whitespace_end.result < length c.as_bytes-bytes.result.now = c.byte_at-first.ensures.within (λ z. absurd (omega (arith, z, c.if-first-eq91.true))) in
    is_array c.as_bytes-bytes.result.now j c.whitespace_end.result here (sym c.byte_at-first.ensures.value ∙ c.if-first-eq91.true) c.whitespace_end.ensures.left (subst (λ u. Says u j) (sym c.as_bytes-bytes.ensures.value) says)

pub returns-then-first-eq34 : goal.returns-then-first-eq34
returns-then-first-eq34 c = λ j says.
    let here : c.whitespace_end.result < length c.as_bytes-bytes.result.now = c.byte_at-first.ensures.within (λ z. absurd (omega (arith, z, c.if-first-eq34.true))) in
    is_string c.as_bytes-bytes.result.now j c.whitespace_end.result here (sym c.byte_at-first.ensures.value ∙ c.if-first-eq34.true) c.whitespace_end.ensures.left (subst (λ u. Says u j) (sym c.as_bytes-bytes.ensures.value) says)

pub returns-else-first-eq34 : goal.returns-else-first-eq34
returns-else-first-eq34 c = λ j says.
    is_atom c.as_bytes-bytes.result.now j c.whitespace_end.result c.whitespace_end.ensures.stops (λ e. c.if-first-eq123.false (c.byte_at-first.ensures.value ∙ e)) (λ e. c.if-first-eq91.false (c.byte_at-first.ensures.value ∙ e)) (λ e. c.if-first-eq34.false (c.byte_at-first.ensures.value ∙ e)) c.whitespace_end.ensures.left (subst (λ u. Says u j) (sym c.as_bytes-bytes.ensures.value) says)
