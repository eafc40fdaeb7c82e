use Rattle.json_patch_edit.proofs.Common.{◌≡◌, ◌+◌, items_len, items_view, drop}
use Rattle.json_patch_edit.specs.Marked.{seen_items}
use Rattle.json_patch_edit.proofs.marks.first_mark.Given as goal

abbrev pub invariant-loop-item : goal.invariant-loop-item
invariant-loop-item l = (l.count ≡ l.item-index) × (items_len (seen_items (items_view l.items.items)) ≡ l.count + items_len (seen_items (items_view (drop l.item-index l.items.items))))
