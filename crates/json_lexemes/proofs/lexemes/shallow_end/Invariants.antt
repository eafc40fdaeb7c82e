use Rattle.std.proofs.Common.{◌≡◌, ◌<◌, ◌≤◌, ◌-◌, true, max, length, drop}
use Rattle.json.specs.Lex.{lex}
use Rattle.json_lexemes.specs.Skipped.{most_open}
use Rattle.json_lexemes.specs.Places.{left_at}
use Rattle.json_lexemes.specs.Blocks.{carried}
use Rattle.json_lexemes.proofs.lexemes.shallow_end.Given as goal

abbrev pub invariant-loop-at : goal.invariant-loop-at
invariant-loop-at l = record {
  low : l.from ≤ l.at;
  high : l.at ≤ length l.text;
  some : 0 < l.open;
  under : l.open ≤ l.most;
  bound : l.open ≤ l.at;
  carry : l.carry.escaped ≡ true → l.carry.inside ≡ true;
  most : max l.most (most_open l.open (lex (carried l.text l.at l.carry.inside l.carry.escaped) (drop l.at l.text))) ≡ max l.most (most_open l.depth (left_at l.text l.from));
}

abbrev pub decreases-loop-at : goal.decreases-loop-at
decreases-loop-at l = length l.text - l.at
