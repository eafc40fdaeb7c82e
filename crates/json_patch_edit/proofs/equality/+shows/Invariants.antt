use Rattle.json_patch_edit.proofs.Common.{◌≡◌, drop, items_view, members_view, same_items, same_members}
use Rattle.json_patch_edit.specs.Marked.{seen_items, seen_members}
use Rattle.json_patch_edit.proofs.equality.+shows.Given as goal

abbrev pub invariant-shows_list-loop-x : goal.invariant-shows_list-loop-x
invariant-shows_list-loop-x l =
    same_items (seen_items (items_view l.xs.items)) (items_view l.ys.items)
    ≡ same_items (seen_items (items_view (drop l.x-index l.x-items))) (items_view l.others.rest.now)

abbrev pub invariant-shows_map-loop-name : goal.invariant-shows_map-loop-name
invariant-shows_map-loop-name l =
    same_members (seen_members (members_view l.xs.entries)) (members_view l.ys.entries)
    ≡ same_members (seen_members (members_view l.name-iterator)) (members_view l.others)
