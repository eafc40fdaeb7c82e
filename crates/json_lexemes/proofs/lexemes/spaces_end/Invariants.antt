use Rattle.std.proofs.Common.{length, ◌-◌, ◌≡◌, ◌≤◌}
use Rattle.std.specs.Str.{IsUtf8, IsCharBoundary}
use Rattle.json_lexemes.specs.Places.{mode_at, left_at, IsEnd}
use Rattle.json.specs.Lex.{between}
use Rattle.json_lexemes.proofs.lexemes.spaces_end.Given as goal

abbrev pub invariant-loop-i : goal.invariant-loop-i
invariant-loop-i l = record {
  low : l.from ≤ l.i;
  high : l.i ≤ length l.text;
  boundary : IsUtf8 l.text → IsCharBoundary l.text l.from → IsCharBoundary l.text l.i;
  left : left_at l.text l.i ≡ left_at l.text l.from;
  end : IsEnd l.text l.from → IsEnd l.text l.i;
  still : mode_at l.text l.from ≡ between → mode_at l.text l.i ≡ between;
}

abbrev pub decreases-loop-i : goal.decreases-loop-i
decreases-loop-i l = length l.text - l.i
