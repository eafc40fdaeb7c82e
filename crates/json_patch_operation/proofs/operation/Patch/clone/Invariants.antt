use Rattle.json_patch_operation.proofs.Common.{◌≡◌, ◌++◌, drop, operations}
use Rattle.json_patch_operation.proofs.operation.Patch.clone.Given as goal

abbrev pub invariant-loop-operation : goal.invariant-loop-operation
invariant-loop-operation l =
    operations l.self.0.items ≡ operations l.copies.items ++ operations (drop l.operation-index l.operation-items)
