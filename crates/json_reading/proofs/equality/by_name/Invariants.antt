use Rattle.std.proofs.Common.{◌≡◌, ℕ, List, drop}
use Rattle.json.specs.Find.{get_member, later_or}
use Rattle.json.specs.Value.{members_view}
use Rattle.json_reading.specs.Matching.{stands}
use Rattle.json_reading.proofs.equality.by_name.Given as goal

abbrev pub invariant-loop-name : goal.invariant-loop-name
invariant-loop-name l = (k : List ℕ) → later_or (get_member k (members_view (drop l.name-index l.name-items))) (stands k l.map) ≡ get_member k (members_view l.members.items)
