use Rattle.json_patch.proofs.Common.{tokens_of}
use Rattle.json_patch_laws.proofs.SharedTokens.{Shares}
use Rattle.json_patch.proofs.shared.shared_pointer.Given as goal

abbrev pub invariant-loop-operation : goal.invariant-loop-operation
invariant-loop-operation l = Shares l.patch l.rest l.operation-index (tokens_of l.shared)
