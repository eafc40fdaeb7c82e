use Rattle.std.proofs.Common.{◌≡◌, ◌<◌, ◌≤◌, ◌+◌, ◌-◌, true, false, length, drop}
use Rattle.json.specs.Lex.{lex}
use Rattle.json_lexemes.specs.Skipped.{skip}
use Rattle.json_lexemes.specs.Places.{mode_at}
use Rattle.json_lexemes.specs.Blocks.{carried}
use Rattle.json_lexemes.proofs.lexemes.blocks_end.Given as goal

abbrev pub invariant-loop-at : goal.invariant-loop-at
invariant-loop-at l = record {
  low : l.from ≤ l.at;
  high : l.at ≤ length l.text;
  some : 0 < l.depth;
  depth : l.depth + l.from ≤ l.at + 1;
  carry : l.carry.escaped ≡ true → l.carry.inside ≡ true;
  left : skip l.depth (lex (carried l.text l.at l.carry.inside l.carry.escaped) (drop l.at l.text)) ≡ skip 1 (lex (carried l.text l.from false false) (drop l.from l.text));
  mode : mode_at l.text l.from ≡ carried l.text l.from false false → mode_at l.text l.at ≡ carried l.text l.at l.carry.inside l.carry.escaped;
}

abbrev pub decreases-loop-at : goal.decreases-loop-at
decreases-loop-at l = length l.text - l.at
