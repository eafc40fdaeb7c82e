use Rattle.std.proofs.Common.{length, drop, ◌-◌, ◌≡◌, ◌≤◌}
use Rattle.json.specs.Lex.{in_string, lex}
use Rattle.json_lexemes.specs.Places.{mode_at}
use Rattle.json_lexemes.proofs.lexemes.escaped_end.Given as goal

abbrev pub invariant-loop-i : goal.invariant-loop-i
invariant-loop-i l = record {
  low : l.from ≤ l.i;
  high : l.i ≤ length l.text;
  left : lex in_string (drop l.i l.text) ≡ lex in_string (drop l.from l.text);
  mode : mode_at l.text l.from ≡ in_string → mode_at l.text l.i ≡ in_string;
}

abbrev pub decreases-loop-i : goal.decreases-loop-i
decreases-loop-i l = length l.text - l.i
