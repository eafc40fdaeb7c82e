use Rattle.std.proofs.Common.{◌≡◌}
use Rattle.json_pieces.specs.Whole.{ArePieces, text_of}
use Rattle.json_text_vectors.proofs.pieces.read_alike.Given as goal

abbrev pub invariant-loop-place : goal.invariant-loop-place
invariant-loop-place l = ArePieces l.pieces × (text_of l.pieces ≡ text_of l.initial.pieces)
