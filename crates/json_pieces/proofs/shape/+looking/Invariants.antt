use Rattle.std.proofs.Common.{◌+◌, length}
use Rattle.jsonptr.specs.Pointers.{tokens_left}
use Rattle.json_pieces.proofs.shape.+looking.Given as goal

abbrev pub decreases-shape_at : goal.decreases-shape_at
decreases-shape_at l = length (tokens_left l.path) + length (tokens_left l.path) + length (tokens_left l.path) + 1

abbrev pub decreases-shape_open : goal.decreases-shape_open
decreases-shape_open l = length (tokens_left l.path) + length (tokens_left l.path) + length (tokens_left l.path)

abbrev pub decreases-shape_in : goal.decreases-shape_in
decreases-shape_in l = length (tokens_left l.rest) + length (tokens_left l.rest) + length (tokens_left l.rest) + 2
