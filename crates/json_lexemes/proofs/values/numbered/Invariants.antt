use Rattle.std.proofs.Common.{◌≡◌, ◌<◌, ◌≤◌, ◌++◌, ◌+◌, List, length, ◌-◌, get_or, false}
use Rattle.std.specs.Str.{IsUtf8, IsCharBoundary}
use Rattle.json.specs.Json.{Items}
use Rattle.json.specs.Word.{is_space}
use Rattle.json.specs.Lex.{Lexeme, between}
use Rattle.json_lexemes.specs.Places.{mode_at, left_at}
use Rattle.json_lexemes.specs.Spelled.{first_elements}
use Rattle.json_lexemes.specs.Found.{AreAhead}
use Rattle.json_lexemes.proofs.values.numbered.Given as goal

abbrev pub invariant-loop-start : goal.invariant-loop-start
invariant-loop-start l = record {
  on : l.start < l.i;
  low : l.i ≤ length l.text;
  boundary : IsUtf8 l.text → IsCharBoundary l.text l.i;
  stops : l.i < length l.text → is_space (get_or l.text l.i 0) ≡ false;
  mode : mode_at l.text l.i ≡ between;
  ahead : (js : Items) (ls : List Lexeme) → left_at l.text (l.start + 1) ≡ first_elements js ++ ls → AreAhead l.text l.number js ls l.i l.left;
}

abbrev pub decreases-loop-start : goal.decreases-loop-start
decreases-loop-start l = length l.text - l.i
