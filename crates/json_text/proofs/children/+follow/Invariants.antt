use Rattle.std.proofs.Common.{◌≡◌, ◌+◌, ◌++◌, List, length}
use Rattle.json.specs.Json.{Members}
use Rattle.json.specs.Lex.{Lexeme}
use Rattle.jsonptr.specs.Pointers.{token_of, tokens_left}
use Rattle.json_lexemes.specs.Found.{IsReached}
use Rattle.json_lexemes.specs.Places.{left_at}
use Rattle.json_lexemes.specs.Spelled.{first_members}
use Rattle.json_text.specs.Ways.{IsPlace}
use Rattle.json_text.proofs.Ways.{AreTurned, left_of}
use Rattle.json_text.proofs.children.+follow.Given as goal

abbrev pub decreases-follow : goal.decreases-follow
decreases-follow l = length (tokens_left l.tokens)

abbrev pub invariant-members : goal.invariant-members
invariant-members l = record {
  reached : IsReached l.text l.start l.next;
  place : IsPlace l.text l.found;
  turned : (ms : Members) (ls : List Lexeme) → left_at l.text (l.start + 1) ≡ first_members ms ++ ls → AreTurned l.text (token_of l.token) (tokens_left l.rest) ms ls l.found l.next;
}

abbrev pub decreases-members : goal.decreases-members
decreases-members l = left_of l.text l.next
