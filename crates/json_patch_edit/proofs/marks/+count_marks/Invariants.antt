use Rattle.json_patch_edit.proofs.Common.{◌≤◌, ◌+◌, drop, view, items_view, members_view}
use Rattle.json_patch_edit.specs.MarkedComputed.{marks, marks_items, marks_members}
use Rattle.json_patch_edit.proofs.marks.+count_marks.Given as goal

abbrev pub invariant-loop-item : goal.invariant-loop-item
invariant-loop-item l = l.count + marks_items (items_view (drop l.item-index l.item-items)) ≤ marks (view l.value)

abbrev pub invariant-loop-name : goal.invariant-loop-name
invariant-loop-name l = l.count + marks_members (members_view l._name-iterator) ≤ marks (view l.value)
