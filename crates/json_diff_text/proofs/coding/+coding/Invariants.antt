use Rattle.std.proofs.Common.{◌*◌, suc, drop}
use Rattle.json.specs.Tree.{depth, items_depth, members_depth}
use Rattle.json.specs.Value.{items_view, members_view, value_view}
use Rattle.serde_json.specs.View.{items_view as items_of}
use Rattle.serde_json.specs.View.{members_view as members_of}
use Rattle.json_patch_document.specs.Document.{AreDocuments, AreMembers}
use Rattle.json_diff_text.specs.Numerals.{AreNumbers, Grows}
use Rattle.json_diff_text.specs.Tables.{table}
use Rattle.json_diff_text.proofs.Coded.{AreSoFar, AreMembersSoFar}
use Rattle.json_diff_text.proofs.coding.+coding.Given as goal

abbrev pub invariant-coded_items-loop-item : goal.invariant-coded_items-loop-item
invariant-coded_items-loop-item l = record {
  far : AreSoFar (table l.numerals) (items_of l.values.items) (items_view (drop l.item-index l.item-items)) (items_view l.items.items);
  documents : AreDocuments (items_of l.values.items);
  grows : Grows (table l.fn.numerals) (table l.numerals);
  numbers : AreNumbers (table l.numerals);
}

abbrev pub invariant-coded_members-loop-name : goal.invariant-coded_members-loop-name
invariant-coded_members-loop-name l = record {
  far : AreMembersSoFar (table l.numerals) (members_of l.map.entries) (members_view (drop l.name-index l.name-items)) (members_view l.members.items);
  members : AreMembers (members_of l.map.entries);
  grows : Grows (table l.fn.numerals) (table l.numerals);
  numbers : AreNumbers (table l.numerals);
}

abbrev pub decreases-coded : goal.decreases-coded
decreases-coded l = 2 * depth (value_view l.tree.now)

abbrev pub decreases-coded_items : goal.decreases-coded_items
decreases-coded_items l = suc (2 * items_depth (items_view l.items.now.items))

abbrev pub decreases-coded_members : goal.decreases-coded_members
decreases-coded_members l = suc (2 * members_depth (members_view l.members.now.items))
