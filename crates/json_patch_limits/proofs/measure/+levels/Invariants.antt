use Rattle.json_patch_limits.proofs.Common.{◌≤◌, ◌<◌, ◌↔◌, drop, view, items_view, members_view}
use Rattle.serde_json.specs.Data.{depth, items_depth, members_depth}
use Rattle.json_patch_limits.proofs.measure.+levels.Given as goal

-- it calls itself no deeper than there are levels
abbrev pub decreases-is_shallow : goal.decreases-is_shallow
decreases-is_shallow l = l.levels

abbrev pub invariant-loop-item : goal.invariant-loop-item
invariant-loop-item l = (items_depth (items_view (drop l.item-index l.item-items)) < l.levels) ↔ (depth (view l.value) ≤ l.levels)

abbrev pub invariant-loop-name : goal.invariant-loop-name
invariant-loop-name l = (members_depth (members_view l._name-iterator) < l.levels) ↔ (depth (view l.value) ≤ l.levels)
