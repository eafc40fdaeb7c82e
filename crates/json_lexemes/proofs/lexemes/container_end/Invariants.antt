use Rattle.std.proofs.Common.{length, ◌-◌, ◌≡◌, ◌≤◌}
use Rattle.std.specs.Str.{IsUtf8, IsCharBoundary}
use Rattle.json.specs.Lex.{between}
use Rattle.json_lexemes.specs.Places.{mode_at, left_at, HasEnd, IsEnd}
use Rattle.json_lexemes.specs.Skipped.{if_open, skip}
use Rattle.json_lexemes.proofs.lexemes.container_end.Given as goal

abbrev pub invariant-loop-depth : goal.invariant-loop-depth
invariant-loop-depth l = record {
  low : l.from ≤ l.end;
  high : l.end ≤ length l.text;
  depth : l.depth ≤ l.end;
  left : if_open l.depth (left_at l.text l.end) (skip l.depth (left_at l.text l.end)) ≡ skip 1 (left_at l.text l.from);
  end : mode_at l.text l.from ≡ between → IsEnd l.text l.end;
  closed : l.depth ≡ 0 → HasEnd l.text l.end × (IsUtf8 l.text → IsCharBoundary l.text l.end);
}

abbrev pub decreases-loop-depth : goal.decreases-loop-depth
decreases-loop-depth l = length l.text - l.end
