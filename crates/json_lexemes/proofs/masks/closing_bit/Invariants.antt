use Rattle.std.proofs.Common.{ℕ}
use Rattle.json_lexemes.proofs.Masked.{CountsTo}
use Rattle.json_lexemes.proofs.masks.closing_bit.Given as goal

abbrev pub invariant-loop-left : goal.invariant-loop-left
invariant-loop-left l = (k : ℕ) × CountsTo l.opens l.shuts l.depth l.open l.left k

abbrev pub decreases-loop-left : goal.decreases-loop-left
decreases-loop-left l = l.left
