use Rattle.std.proofs.Common.{◌≡◌, drop}
use Rattle.json.specs.Value.{items_view as tree_items_view}
use Rattle.json.specs.Value.{members_view as tree_members_view}
use Rattle.serde_json.specs.View.{items_view, members_view}
use Rattle.json_diff_text.specs.Numerals.{tree_items, tree_members}
use Rattle.json_diff_text.specs.Tables.{numerals_in}
use Rattle.json_diff_text.proofs.Shown.{joined, joined_members}
use Rattle.json_diff_text.proofs.showing.+showing.Given as goal

abbrev pub invariant-shown_items-loop-item : goal.invariant-shown_items-loop-item
invariant-shown_items-loop-item l = joined (tree_items_view l.trees.items) (tree_items (numerals_in l.texts.items) (items_view (drop l.item-index l.item-items))) ≡ tree_items (numerals_in l.texts.items) (items_view l.items.items)

abbrev pub invariant-shown_members-loop-name : goal.invariant-shown_members-loop-name
invariant-shown_members-loop-name l = joined_members (tree_members_view l.trees.items) (tree_members (numerals_in l.texts.items) (members_view l.name-iterator)) ≡ tree_members (numerals_in l.texts.items) (members_view l.members.entries)
