use Rattle.std.proofs.Common.{◌<◌, drop}
use Rattle.json.specs.Tree.{depth, items_depth, members_depth}
use Rattle.json.specs.Value.{items_view, members_view, value_view}
use Rattle.json_diff_text.proofs.reading.+levels.Given as goal

-- what was found so far, and what is left, is below the value
abbrev pub invariant-loop-item : goal.invariant-loop-item
invariant-loop-item l = record {
  most : l.most < depth (value_view l.value);
  low : items_depth (items_view (drop l.item-index l.item-items)) < depth (value_view l.value);
}

abbrev pub invariant-loop-name : goal.invariant-loop-name
invariant-loop-name l = record {
  most : l.most < depth (value_view l.value);
  low : members_depth (members_view (drop l._name-index l._name-items)) < depth (value_view l.value);
}
