use Rattle.std.proofs.Common.{length, ◌-◌, ◌≤◌}
use Rattle.json_lexemes.specs.Places.{left_at, IsEnd}
use Rattle.json_lexemes.specs.Runs.{Passes}
use Rattle.json_lexemes.proofs.lexemes.bracket_from.Given as goal

abbrev pub invariant-loop-at : goal.invariant-loop-at
invariant-loop-at l = record {
  low : l.from ≤ l.i;
  high : l.i ≤ length l.text;
  passes : Passes (left_at l.text l.from) (left_at l.text l.i);
  end : IsEnd l.text l.from → IsEnd l.text l.i;
}

abbrev pub decreases-loop-at : goal.decreases-loop-at
decreases-loop-at l = length l.text - l.i
