use Rattle.std.proofs.Common.{◌≤◌, List, length}
use Rattle.json.specs.Lex.{Lexeme}
use Rattle.json_lexemes.specs.Places.{left_at, IsEnd}
use Rattle.json_text.specs.Ways.{AreOpen}
use Rattle.json_text.proofs.children.arrays_end.Given as goal

abbrev pub invariant-loop-left : goal.invariant-loop-left
invariant-loop-left l = record {
  low : l.from ≤ l.end;
  high : l.end ≤ length l.text;
  ends : IsEnd l.text l.end;
  still : (ls : List Lexeme) → AreOpen l.arrays (left_at l.text l.from) ls → AreOpen l.left (left_at l.text l.end) ls;
}

abbrev pub decreases-loop-left : goal.decreases-loop-left
decreases-loop-left l = l.left
