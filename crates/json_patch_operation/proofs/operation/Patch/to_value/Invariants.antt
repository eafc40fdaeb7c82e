use Rattle.json_patch_operation.proofs.Common.{◌≡◌, ◌++◌, drop, map, view, operations, written_value}
use Rattle.json_patch_operation.proofs.operation.Patch.to_value.Given as goal

abbrev pub invariant-loop-operation : goal.invariant-loop-operation
invariant-loop-operation l =
    map written_value (operations l.self.0.items) ≡ map view l.items.items ++ map written_value (operations (drop l.operation-index l.operation-items))
