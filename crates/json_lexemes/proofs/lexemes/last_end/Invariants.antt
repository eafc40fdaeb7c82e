use Rattle.std.proofs.Common.{length, drop, ◌≡◌, ◌≤◌, true, []}
use Rattle.std.specs.Str.{IsCharBoundary}
use Rattle.json.specs.Word.{ends_word}
use Rattle.json_lexemes.specs.Lexing.{Outside}
use Rattle.json_lexemes.specs.Places.{mode_at, left_at}
use Rattle.json_lexemes.proofs.lexemes.last_end.Given as goal

abbrev pub invariant-loop-end : goal.invariant-loop-end
invariant-loop-end l = record {
  low : l.from ≤ l.end;
  high : l.end ≤ length l.text;
  left : left_at l.text l.end ≡ [];
  ended : ends_word (drop l.end l.text) ≡ true;
  closed : Outside (mode_at l.text (length l.text)) → Outside (mode_at l.text l.end);
  boundary : IsCharBoundary l.text l.end;
}

abbrev pub decreases-loop-end : goal.decreases-loop-end
decreases-loop-end l = l.end
