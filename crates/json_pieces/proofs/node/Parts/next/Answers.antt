use Rattle.long_vec.specs.Walks.{left}
use Rattle.json_pieces.proofs.Lists.{none_left, none_said}
use Rattle.json_pieces.proofs.node.Parts.next.Goals as goal

pub returns-in_err-seam : goal.returns-in_err-seam
returns-in_err-seam c =
    let w = c.args.self.now in
    none_said _ c.from_residual.result c.from_residual.ensures (none_left (left w.seams) (left w.values) c.in_err-seam.ensures c.requires)
