use Rattle.json_patch_limits.proofs.Common.{◌≡◌, ◌+◌, drop, view, items_view, members_view}
use Rattle.json_patch_limits.specs.OverLimits.{size, items_size, members_size}
use Rattle.json_patch_edit.specs.Marked.{seen, seen_items, seen_members}
use Rattle.json_patch_limits.proofs.measure.+sizes.Given as goal

abbrev pub invariant-loop-item : goal.invariant-loop-item
invariant-loop-item l = l.left + size (seen (view l.value)) ≡ l.much + items_size (seen_items (items_view (drop l.item-index l.item-items)))

abbrev pub invariant-loop-name : goal.invariant-loop-name
invariant-loop-name l = l.left + size (seen (view l.value)) ≡ l.much + members_size (seen_members (members_view l.name-iterator))
