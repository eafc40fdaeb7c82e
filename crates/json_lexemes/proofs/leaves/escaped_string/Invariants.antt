use Rattle.std.proofs.Common.{length, ◌-◌, ◌≤◌}
use Rattle.json_lexemes.proofs.Ended.{IsInside}
use Rattle.json_lexemes.proofs.leaves.escaped_string.Given as goal

abbrev pub invariant-loop-i : goal.invariant-loop-i
invariant-loop-i l = record {
  low : l.from ≤ l.i;
  high : l.i ≤ length l.text;
  inside : IsInside l.text l.from l.i;
}

abbrev pub decreases-loop-i : goal.decreases-loop-i
decreases-loop-i l = length l.text - l.i
