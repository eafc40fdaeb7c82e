use Rattle.std.proofs.Common.{◌≡◌, ◌++◌, List, length}
use Rattle.json_pieces.specs.Names.{IsIndexOf}
use Rattle.json_pieces.specs.declared.seams.Seam.{Seam}
use Rattle.long_vec.specs.Walks.{left}
use Rattle.json_pieces.proofs.seams.indexed.Given as goal

-- the index is that of the seams that were passed
abbrev pub invariant-loop-seam : goal.invariant-loop-seam
invariant-loop-seam l = (done : List Seam) × (done ++ left l.seams ≡ left l.fn.seams) × IsIndexOf done l.index

abbrev pub decreases-loop-seam : goal.decreases-loop-seam
decreases-loop-seam l = length (left l.seams)
