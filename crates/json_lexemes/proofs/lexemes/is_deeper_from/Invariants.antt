use Rattle.std.proofs.Common.{length, ◌-◌, ◌≡◌, ◌<◌, ◌≤◌, get_or, true}
use Rattle.json_lexemes.specs.Runs.{is_bracket}
use Rattle.json_lexemes.specs.Skipped.{most_open}
use Rattle.json_lexemes.specs.Places.{left_at}
use Rattle.json_lexemes.proofs.lexemes.is_deeper_from.Given as goal

abbrev pub invariant-loop-i : goal.invariant-loop-i
invariant-loop-i l = record {
  high : l.i ≤ length l.text;
  depth : l.open ≤ l.i;
  under : l.open ≤ l.most;
  stops : l.i < length l.text → is_bracket (get_or l.text l.i 0) ≡ true;
  forth : l.most < most_open l.open (left_at l.text l.i) → l.most < most_open l.depth (left_at l.text l.from);
  back : l.most < most_open l.depth (left_at l.text l.from) → l.most < most_open l.open (left_at l.text l.i);
}

abbrev pub decreases-loop-i : goal.decreases-loop-i
decreases-loop-i l = length l.text - l.i
