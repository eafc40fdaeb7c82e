use Rattle.json_patch_edit.proofs.Common.{◌≡◌, ◌+◌, ◌*◌, view, items_view, members_view, vec_len, take}
use Rattle.serde_json.specs.Data.{depth, items_depth, members_depth}
use Rattle.json_patch_edit.specs.Marked.{clear_upto}
use Rattle.json_patch_edit.proofs.marks.+clear.Given as goal

abbrev pub decreases-clear : goal.decreases-clear
decreases-clear l = 3 * depth (view l.value.now)

abbrev pub decreases-clear_items : goal.decreases-clear_items
decreases-clear_items l = 3 * items_depth (items_view l.items.now.items) + 2

abbrev pub decreases-clear_members : goal.decreases-clear_members
decreases-clear_members l = 3 * members_depth (members_view l.members.now.entries) + 2

abbrev pub decreases-clear_members-retain : goal.decreases-clear_members-retain
decreases-clear_members-retain l = 3 * depth (view l.member.now) + 1

abbrev pub invariant-clear_items-loop-i : goal.invariant-clear_items-loop-i
invariant-clear_items-loop-i l = (vec_len l.items ≡ l.count) × (items_view l.items.items ≡ clear_upto l.i (items_view (take l.count l.fn.items.items)))
