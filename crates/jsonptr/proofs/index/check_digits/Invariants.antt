use Rattle.std.proofs.Common.{ℕ, ◌<◌, slice_index}
use Rattle.std.specs.Int.{IsInRange}
use Rattle.jsonptr.proofs.index.check_digits.Given as goal

abbrev pub invariant-loop-offset : goal.invariant-loop-offset
invariant-loop-offset l = (k : ℕ) → k < l.offset → IsInRange 48 57 (slice_index l.bytes k)
