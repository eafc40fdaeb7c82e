use Rattle.std.proofs.Common.{◌∙◌, sym}
use Rattle.json.specs.Value.{value_view}
use Rattle.json_merge_text.proofs.Built.{as_said}
use Rattle.json_merge_text.proofs.Possible.{whole_shape, whole_stands, whole_there}
use Rattle.json_pieces.specs.Whole.{text_of}
use Rattle.json_text.specs.Checked.{text_in}
use Rattle.json_merge_text.proofs.whole.merged.Goals as goal

pub merge_into-requires-clause-named : goal.merge_into-requires-clause-named
merge_into-requires-clause-named c =
    whole_stands (text_in c.args.patch) (text_of c.new-texts.result.patch) c.new.result (value_view c.in_ok-change.change) c.new-texts.ensures.patch c.new.ensures c.in_ok-change.ensures

pub merge_into-requires-clause-stands : goal.merge_into-requires-clause-stands
merge_into-requires-clause-stands c =
    whole_there c.as_str.result.now (text_of c.new-texts.result.document) c.new.result (c.new-texts.ensures.document ∙ sym c.as_str.ensures.text) c.new.ensures c.as_str.ensures.shallow

pub merge_into-requires-clause-shape : goal.merge_into-requires-clause-shape
merge_into-requires-clause-shape c i stands =
    whole_shape c.as_str.result.now (text_of c.new-texts.result.document) c.new.result c.of-here.result i (c.new-texts.ensures.document ∙ sym c.as_str.ensures.text) c.new.ensures c.of-here.ensures stands

pub returns-clause-changed : goal.returns-clause-changed
returns-clause-changed c = λ i p s t.
    as_said (text_in c.args.text) (text_in c.args.patch) (value_view c.in_ok-change.change) i p (text_of c.new-texts.result.document) (text_of c.new-texts.result.patch) (text_of c.merge_into-2.new.texts.document) c.new.result
    c.in_ok-change.ensures c.new-texts.ensures.document c.new-texts.ensures.patch c.new.ensures c.in_ok-merge_into.ensures.made s t
