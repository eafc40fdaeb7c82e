use Rattle.std.proofs.Common.{◌≡◌, ◌++◌, List, length}
use Rattle.std.specs.String.{string_bytes}
use Rattle.json_text.specs.Cuts.{opens, pieces_text}
use Rattle.json_pieces.specs.Nodes.{mark_before}
use Rattle.json_pieces.specs.declared.node.Node.{Node}
use Rattle.long_vec.specs.Items.{items_of}
use Rattle.long_vec.specs.Walks.{left}
use Rattle.json_pieces.proofs.Lists.{AreSoundIn, pieces_in}
use Rattle.json_pieces.proofs.node.+write.Given as goal

abbrev pub decreases-write : goal.decreases-write
decreases-write l = goal.size-write l

abbrev pub decreases-write_row : goal.decreases-write_row
decreases-write_row l = goal.size-write_row l

-- what is written and what is left make the whole
abbrev pub invariant-write_row-loop-seam : goal.invariant-write_row-loop-seam
invariant-write_row-loop-seam l = record {
  before : (done : List Node) × (done ++ left l.parts.values ≡ items_of l.row.values);
  sound : AreSoundIn (left l.parts.seams) (left l.parts.values);
  so_far : string_bytes l.out ++ pieces_text (mark_before l.row.named l.first) (pieces_in (left l.parts.seams) (left l.parts.values)) ≡ string_bytes l.fn.out ++ pieces_text (opens l.row.named) (pieces_in (items_of l.row.seams.all) (items_of l.row.values));
}

abbrev pub decreases-write_row-loop-seam : goal.decreases-write_row-loop-seam
decreases-write_row-loop-seam l = length (left l.parts.values)
