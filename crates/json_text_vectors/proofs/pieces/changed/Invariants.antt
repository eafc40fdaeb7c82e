use Rattle.json.specs.Json.{Json}
use Rattle.json_lexemes.specs.Spelled.{IsShallowText}
use Rattle.json_pieces.specs.Whole.{ArePieces, text_of}
use Rattle.json_text_vectors.proofs.pieces.changed.Given as goal

abbrev pub invariant-loop-line : goal.invariant-loop-line
invariant-loop-line l = ArePieces l.pieces × ((j : Json) × IsShallowText (text_of l.pieces) j)
