use Rattle.std.proofs.Common.{◌+◌, ◌*◌, ◌-◌, length}
use Rattle.jsonptr.specs.Pointers.{tokens_left}
use Rattle.long_vec.specs.Items.{items_of}
use Rattle.json_pieces.proofs.Openings.{AreCut}
use Rattle.json_pieces.proofs.opening.+copy.Given as goal

abbrev pub decreases-copied : goal.decreases-copied
decreases-copied l = length (tokens_left l.way.tokens) * 2 + 1

abbrev pub decreases-value_copied : goal.decreases-value_copied
decreases-value_copied l = length (tokens_left l.way.tokens) * 2

abbrev pub invariant-copied-loop-cut : goal.invariant-copied-loop-cut
invariant-copied-loop-cut l = AreCut l.text l.named (items_of l.seams.all) (items_of l.values) l.from

abbrev pub decreases-copied-loop-cut : goal.decreases-copied-loop-cut
decreases-copied-loop-cut l = length l.text - l.from
