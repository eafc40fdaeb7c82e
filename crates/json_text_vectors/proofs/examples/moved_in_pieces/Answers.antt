use Rattle.std.proofs.Common.{subst, sym}
use Rattle.json_pieces.specs.Whole.{ArePieces}
use Rattle.json_text_vectors.proofs.examples.moved_in_pieces.Goals.{in-Some+in_ok-done+in_ok-new, in_default-2}
use Rattle.json_text_vectors.proofs.examples.moved_in_pieces.Goals as goal

pub to_text-requires-2 : goal.to_text-requires-2
to_text-requires-2 c =
    elim c.match-branch-4.branch [
      | in-Some+in_ok-done+in_ok-new w ↦ subst ArePieces (sym w.pieces-is) w.put.ensures.pieces
      | in_default-2 w ↦ subst ArePieces (sym w.pieces-is) c.take.ensures.pieces
    ]
