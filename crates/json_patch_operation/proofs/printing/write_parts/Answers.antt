use Rattle.json_patch_operation.proofs.Common.{ap, rules, is_ok, has_written_append, has_written_of_eq, parts_view}
use Rattle.json_patch_operation.proofs.Texts.{printed_operation}
use Rattle.json_patch_operation.proofs.printing.write_parts.Goals as goal

pub returns : goal.returns
returns g c plain ok =
    let opened = c.write_str.ensures.writes plain (ap is_ok c.in_ok-write_str.was) in
    let name = c.write_leading.ensures opened.plain (ap is_ok c.in_ok-write_leading.was) in
    let from = c.write_leading-2.ensures name.plain (ap is_ok c.in_ok-write_leading-2.was) in
    let key = c.write_name.ensures from.plain (ap is_ok c.in_ok-write_name.was) in
    let path = c.write_text.ensures key.plain (ap is_ok c.in_ok-write_text.was) in
    let value = c.write_trailing.ensures path.plain (ap is_ok c.in_ok-write_trailing.was) in
    let closed = c.write_str-2.ensures.writes value.plain ok in
    let one = has_written_append _ _ _ _ _ _ opened name in
    let two = has_written_append _ _ _ _ _ _ one from in
    let three = has_written_append _ _ _ _ _ _ two key in
    let four = has_written_append _ _ _ _ _ _ three path in
    let five = has_written_append _ _ _ _ _ _ four value in
    has_written_of_eq _ _ _ _ _ (printed_operation _ _ _ (parts_view c.args.parts) (search rules) c.as_str.ensures) (has_written_append _ _ _ _ _ _ five closed)
