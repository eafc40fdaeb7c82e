use Rattle.std.proofs.Common.{◌<◌, drop}
use Rattle.serde_json.specs.Data.{depth, items_depth, members_depth}
use Rattle.serde_json.specs.View.{items_view, members_view, view}
use Rattle.json_patch_moves.proofs.moving.+levels.Given as goal

-- what was found so far, and what is left, is below the value
abbrev pub invariant-loop-item : goal.invariant-loop-item
invariant-loop-item l = record {
  most : l.most < depth (view l.value);
  low : items_depth (items_view (drop l.item-index l.item-items)) < depth (view l.value);
}

abbrev pub invariant-loop-name : goal.invariant-loop-name
invariant-loop-name l = record {
  most : l.most < depth (view l.value);
  low : members_depth (members_view l._name-iterator) < depth (view l.value);
}
