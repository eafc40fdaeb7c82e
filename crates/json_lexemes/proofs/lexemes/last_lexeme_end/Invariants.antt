use Rattle.std.proofs.Common.{length, ◌-◌, ◌≡◌, ◌⊎◌, ◌<◌, ◌≤◌, get_or, false}
use Rattle.std.specs.Str.{IsUtf8, IsCharBoundary}
use Rattle.json.specs.Word.{is_space}
use Rattle.json_lexemes.specs.Places.{left_at, HasEnd, IsEnd}
use Rattle.json_lexemes.proofs.lexemes.last_lexeme_end.Given as goal

abbrev pub invariant-loop-i : goal.invariant-loop-i
invariant-loop-i l = record {
  low : l.from ≤ l.end;
  mid : l.end ≤ l.i;
  high : l.i ≤ length l.text;
  stops : l.i < length l.text → is_space (get_or l.text l.i 0) ≡ false;
  boundary : IsUtf8 l.text → IsCharBoundary l.text l.from → IsCharBoundary l.text l.end;
  same : left_at l.text l.i ≡ left_at l.text l.end;
  here : IsEnd l.text l.from → IsEnd l.text l.i;
  ends : IsEnd l.text l.from → IsEnd l.text l.end × ((l.end ≡ l.from) ⊎ HasEnd l.text l.end);
}

abbrev pub decreases-loop-i : goal.decreases-loop-i
decreases-loop-i l = length l.text - l.i
