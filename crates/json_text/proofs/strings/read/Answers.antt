use Rattle.std.proofs.Common.{Some, None, ap, ◌∙◌, string_bytes}
use Rattle.json.specs.Value.{value_view}
use Rattle.json_text.proofs.Said.{read_there}
use Rattle.json_text.proofs.strings.read.Goals as goal

pub returns-in-Some : goal.returns-in-Some
returns-in-Some c = read_there c.args.text.now (value_view c.in-Ok.value) (Some (string_bytes c.in_ok-from_str-in-Some.field-0)) c.in-Ok.ensures.ok (ap Some c.in_ok-from_str-in-Some.ensures.ok ∙ c.in-Some.ensures)

pub returns : goal.returns
returns c = read_there c.args.text.now (value_view c.in-Ok.value) None c.in-Ok.ensures.ok c.in-None.ensures
