use Rattle.std.proofs.Common.{length}
use Rattle.jsonptr.specs.Pointers.{tokens_of}
use Rattle.jsonptr.proofs.Sharing.{GoOn}
use Rattle.jsonptr.proofs.pointer.Pointer.shared_with.Given as goal

abbrev pub invariant-loop-left : goal.invariant-loop-left
invariant-loop-left l = GoOn (tokens_of l.self) (tokens_of l.other) (tokens_of l.rest) (tokens_of l.others)

abbrev pub decreases-loop-left : goal.decreases-loop-left
decreases-loop-left l = length (tokens_of l.rest)
