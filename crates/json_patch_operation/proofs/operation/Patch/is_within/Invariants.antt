use Rattle.json_patch_operation.proofs.Common.{◌↔◌, drop, tokens_of, AreWithin, operations}
use Rattle.json_patch_operation.proofs.operation.Patch.is_within.Given as goal

abbrev pub invariant-loop-operation : goal.invariant-loop-operation
invariant-loop-operation l =
    AreWithin (tokens_of l.section) (operations l.self.0.items) ↔ AreWithin (tokens_of l.section) (operations (drop l.operation-index l.operation-items))
