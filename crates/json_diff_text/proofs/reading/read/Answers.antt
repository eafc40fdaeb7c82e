use Rattle.std.proofs.Common.{Err, ap}
use Rattle.json.specs.Value.{value_view}
use Rattle.json_lexemes.proofs.Parsed.{Says-document}
use Rattle.json_diff_text.proofs.Between.{not_json, shallow_tree, told_shallow}
use Rattle.json_diff_text.proofs.reading.read.Goals as goal

pub returns-in-Ok-clause-says : goal.returns-in-Ok-clause-says
returns-in-Ok-clause-says c = Says-document c.args.text.now (value_view c.in-Ok.value) c.in-Ok.ensures.ok

pub returns-in-Ok-clause-shallow : goal.returns-in-Ok-clause-shallow
returns-in-Ok-clause-shallow c = shallow_tree c.args.text.now c.args.levels (value_view c.in-Ok.value) c.in-Ok.ensures.ok (told_shallow c.args.text.now c.args.levels c.is_deeper.result c.is_deeper.ensures c.if-is_deeper.false)

pub returns-in-Err-Invalid-clause-fault : goal.returns-in-Err-Invalid-clause-fault
returns-in-Err-Invalid-clause-fault c =
    not_json c.args.text.now c.args.levels (c.in-Err-Invalid.ensures.invalid (ap Err c.in-Err-Invalid.field-0-is)) (told_shallow c.args.text.now c.args.levels c.is_deeper.result c.is_deeper.ensures c.if-is_deeper.false) c.requires
