use Rattle.std.proofs.Common.{◌+◌, ◌*◌, ◌-◌, length}
use Rattle.jsonptr.specs.Pointers.{tokens_left}
use Rattle.long_vec.specs.Items.{items_of}
use Rattle.json_pieces.proofs.Openings.{AreCut}
use Rattle.json_pieces.proofs.opening.+open.Given as goal

abbrev pub decreases-row_of : goal.decreases-row_of
decreases-row_of l = length (tokens_left l.way.tokens) * 2 + 1

abbrev pub decreases-value_along : goal.decreases-value_along
decreases-value_along l = length (tokens_left l.way.tokens) * 2

abbrev pub invariant-row_of-loop-cut : goal.invariant-row_of-loop-cut
invariant-row_of-loop-cut l = AreCut l.text l.named (items_of l.seams.all) (items_of l.values) l.from

abbrev pub decreases-row_of-loop-cut : goal.decreases-row_of-loop-cut
decreases-row_of-loop-cut l = length l.text - l.from
