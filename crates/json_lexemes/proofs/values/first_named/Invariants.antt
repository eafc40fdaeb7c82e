use Rattle.std.proofs.Common.{◌≡◌, ◌<◌, ◌≤◌, ◌++◌, List, length, ◌-◌, get_or, false}
use Rattle.json.specs.Json.{Members}
use Rattle.json.specs.Word.{is_space}
use Rattle.json.specs.Lex.{Lexeme, between}
use Rattle.json_lexemes.specs.Places.{mode_at, left_at}
use Rattle.json_lexemes.specs.Spelled.{first_members}
use Rattle.json_lexemes.proofs.Members.{AreAhead}
use Rattle.json_lexemes.proofs.values.first_named.Given as goal

abbrev pub invariant-loop-places : goal.invariant-loop-places
invariant-loop-places l = record {
  on : l.from ≤ l.i;
  low : l.i ≤ length l.text;
  stops : l.i < length l.text → is_space (get_or l.text l.i 0) ≡ false;
  mode : mode_at l.text l.i ≡ between;
  ahead : (ms : Members) (ls : List Lexeme) → left_at l.text l.from ≡ first_members ms ++ ls → AreAhead l.text l.name ms ls l.i;
}

abbrev pub decreases-loop-places : goal.decreases-loop-places
decreases-loop-places l = length l.text - l.i
