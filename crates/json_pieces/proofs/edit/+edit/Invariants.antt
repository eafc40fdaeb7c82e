use Rattle.std.proofs.Common.{◌+◌, ◌*◌, length}
use Rattle.jsonptr.specs.Pointers.{tokens_left}
use Rattle.json_pieces.proofs.edit.+edit.Given as goal

abbrev pub decreases-edit_at : goal.decreases-edit_at
decreases-edit_at l = length (tokens_left l.path) * 6 + 4

abbrev pub decreases-edit_small : goal.decreases-edit_small
decreases-edit_small l = length (tokens_left l.path) * 6 + 3

abbrev pub decreases-edit_copied : goal.decreases-edit_copied
decreases-edit_copied l = length (tokens_left l.path) * 6 + 2

abbrev pub decreases-edited : goal.decreases-edited
decreases-edited l = length (tokens_left l.path) * 6 + 1

abbrev pub decreases-edit_open : goal.decreases-edit_open
decreases-edit_open l = length (tokens_left l.path) * 6

abbrev pub decreases-edit_in : goal.decreases-edit_in
decreases-edit_in l = length (tokens_left l.rest) * 6 + 5
