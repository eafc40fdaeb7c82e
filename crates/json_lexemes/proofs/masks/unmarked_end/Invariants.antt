use Rattle.std.proofs.Common.{◌≤◌, ◌-◌, length}
use Rattle.json_lexemes.specs.Grammar.{IsFree}
use Rattle.json_lexemes.specs.Blocks.{is_string_mark}
use Rattle.json_lexemes.proofs.masks.unmarked_end.Given as goal

abbrev pub invariant-loop-i : goal.invariant-loop-i
invariant-loop-i l = record {
  low : l.from ≤ l.i;
  high : l.i ≤ length l.text;
  free : IsFree is_string_mark l.text l.from l.i;
}

abbrev pub decreases-loop-i : goal.decreases-loop-i
decreases-loop-i l = length l.text - l.i
