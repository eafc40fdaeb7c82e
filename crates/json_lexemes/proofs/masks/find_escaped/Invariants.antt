use Rattle.std.proofs.Common.{ℕ}
use Rattle.json_lexemes.proofs.Masked.{EscapesTo}
use Rattle.json_lexemes.proofs.masks.find_escaped.Given as goal

abbrev pub invariant-loop-left : goal.invariant-loop-left
invariant-loop-left l = (k : ℕ) × EscapesTo l.carry l.backslashes l.escaped l.left k

abbrev pub decreases-loop-left : goal.decreases-loop-left
decreases-loop-left l = l.left
