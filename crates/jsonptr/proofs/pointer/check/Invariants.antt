use Rattle.std.proofs.Common.{ℕ, ◌<◌}
use Rattle.jsonptr.specs.Faults.{IsBareTilde}
use Rattle.jsonptr.proofs.pointer.check.Given as goal

abbrev pub invariant-loop-offset : goal.invariant-loop-offset
invariant-loop-offset l = (k : ℕ) → k < l.offset → ¬ IsBareTilde l.bytes k
