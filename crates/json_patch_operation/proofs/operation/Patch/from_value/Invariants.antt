use Rattle.json_patch_operation.proofs.Common.{take, items_view, operations, ReadsItems}
use Rattle.json_patch_operation.proofs.operation.Patch.from_value.Given as goal

abbrev pub invariant-loop-number : goal.invariant-loop-number
invariant-loop-number l = ReadsItems (items_view (take l.number l.item-items)) (operations l.operations.items)
