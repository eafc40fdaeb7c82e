use Rattle.std.proofs.Common.{◌↔◌, ◌*◌, suc, drop}
use Rattle.json.specs.Tree.{depth, items_depth, members_depth}
use Rattle.json.specs.Value.{value_view, items_view, members_view}
use Rattle.json_reading.specs.Matching.{Matched, stands}
use Rattle.json_reading.specs.Same.{SameElements}
use Rattle.json_reading.proofs.equality.+same.Given as goal

abbrev pub invariant-same_elements-loop-x : goal.invariant-same_elements-loop-x
invariant-same_elements-loop-x l =
    SameElements (items_view l.xs.items) (items_view l.ys.items)
    ↔ SameElements (items_view (drop l.x-index l.x-items)) (items_view l.others.rest.now)

abbrev pub invariant-same_members-loop-name : goal.invariant-same_members-loop-name
invariant-same_members-loop-name l =
    Matched (members_view l.xs.items) (members_view l.ys.items) (members_view (drop l.name-index l.name-items)) (λ k. stands k l.ours) (λ k. stands k l.theirs)

abbrev pub decreases-same_values : goal.decreases-same_values
decreases-same_values l = 2 * depth (value_view l.a.now)

abbrev pub decreases-same_elements : goal.decreases-same_elements
decreases-same_elements l = suc (2 * items_depth (items_view l.xs.now.items))

abbrev pub decreases-same_members : goal.decreases-same_members
decreases-same_members l = suc (2 * members_depth (members_view l.xs.now.items))
