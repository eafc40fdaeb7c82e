use Rattle.std.proofs.Common.{sym, ◌∙◌, arith}
use Rattle.std.proofs.lemmas.Bool.{eqb-true}
use Rattle.json_text.proofs.Rows.Objects.{object_byte, is_object}
use Rattle.json_text.proofs.parts.is_object.Goals as goal

pub returns-clause-yes : goal.returns-clause-yes
returns-clause-yes c = λ v says e.
    let t = c.args.text.now in
    let o = c.whitespace_end.result in
    let brace = eqb-true _ 123 e in
    is_object t v o (c.byte_at.ensures.within (λ z. absurd (omega (arith, z, brace)))) (sym c.byte_at.ensures.value ∙ brace) c.whitespace_end.ensures.left says

pub returns-clause-no : goal.returns-clause-no
returns-clause-no c = λ v says e y. object_byte c.args.text.now v c.whitespace_end.result c.byte_at.result c.whitespace_end.ensures.stops c.byte_at.ensures.value c.whitespace_end.ensures.left says y e
