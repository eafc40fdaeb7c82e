use Rattle.std.proofs.Common.{◌++◌, ap, ◌∙◌}
use Rattle.json_text.proofs.Rows.Labels.{ends_name, joined}
use Rattle.json_text.specs.Styled.{colons_like}
use Rattle.json_text.proofs.growing.label.Goals as goal

pub range-requires-clause-start_le_end : goal.range-requires-clause-start_le_end
range-requires-clause-start_le_end c =
    (ends_name c.args.text.now _ c.args.number c.args.last c.string_end-name_end.result c.as_bytes.ensures.value c.requires.member c.requires.part c.string_end-name_end.ensures.left c.string_end-name_end.ensures.mode c.string_end-name_end.ensures.bounds.0 c.string_end-name_end.ensures.bounds.1).order

pub returns : goal.returns
returns c =
    let (i, g, e) = c.in_ok-ahead.ensures in
    let k = c.string_end-name_end.result in
    let name = ends_name c.args.text.now _ c.args.number c.args.last k c.as_bytes.ensures.value c.requires.member c.requires.part c.string_end-name_end.ensures.left c.string_end-name_end.ensures.mode c.string_end-name_end.ensures.bounds.0 c.string_end-name_end.ensures.bounds.1 in
    (i, k, g, name, joined _ _ c.as_str.result.now c.colons_like.result.now _ _ _ (c.in_ok-push_str-2.ensures.bytes ∙ ap (λ s. s ++ c.colons_like.result.now) c.in_ok-push_str.ensures.bytes) e (c.as_str.ensures.value ∙ c.in_ok-name.ensures) (c.colons_like.ensures.like ∙ ap colons_like c.range.ensures.value))
