use Rattle.json_patch_operation.proofs.Common.{◌↔◌, drop, AreWhole, operations}
use Rattle.json_patch_operation.proofs.operation.Patch.is_whole.Given as goal

abbrev pub invariant-loop-operation : goal.invariant-loop-operation
invariant-loop-operation l =
    AreWhole (operations l.self.0.items) ↔ AreWhole (operations (drop l.operation-index l.operation-items))
