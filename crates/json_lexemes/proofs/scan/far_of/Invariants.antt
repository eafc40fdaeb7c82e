use Rattle.std.proofs.Common.{◌-◌, ◌≤◌, length}
use Rattle.json_lexemes.specs.Grammar.{IsFree}
use Rattle.json_lexemes.proofs.scan.far_of.Given as goal

abbrev pub invariant-loop-i : goal.invariant-loop-i
invariant-loop-i g l = record {
  low : l.from ≤ l.i;
  high : l.i ≤ length l.text;
  free : IsFree g.K.Sought.is_sought l.text l.from l.i;
}

abbrev pub decreases-loop-i : goal.decreases-loop-i
decreases-loop-i g l = length l.text - l.i

abbrev pub invariant-loop-i-2 : goal.invariant-loop-i-2
invariant-loop-i-2 g l = record {
  low : l.from ≤ l.i;
  high : l.i ≤ length l.text;
  free : IsFree g.K.Sought.is_sought l.text l.from l.i;
}

abbrev pub decreases-loop-i-2 : goal.decreases-loop-i-2
decreases-loop-i-2 g l = length l.text - l.i
