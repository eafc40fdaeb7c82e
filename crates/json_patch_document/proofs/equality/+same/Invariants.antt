use Rattle.json_patch_document.proofs.Common.{◌≡◌, drop, items_view, members_view, same_items, same_members}
use Rattle.json_patch_document.proofs.equality.+same.Given as goal

abbrev pub invariant-same_lists-loop-x : goal.invariant-same_lists-loop-x
invariant-same_lists-loop-x l =
    same_items (items_view l.xs.items) (items_view l.ys.items)
    ≡ same_items (items_view (drop l.x-index l.x-items)) (items_view l.others.rest.now)

abbrev pub invariant-same_maps-loop-name : goal.invariant-same_maps-loop-name
invariant-same_maps-loop-name l =
    same_members (members_view l.xs.entries) (members_view l.ys.entries)
    ≡ same_members (members_view l.name-iterator) (members_view l.others)
