use Rattle.std.proofs.Common.{◌+◌, length}
use Rattle.json_pieces.proofs.back.+back.Given as goal

abbrev pub decreases-back_at : goal.decreases-back_at
decreases-back_at l = length l.place.now + length l.place.now + 1

abbrev pub decreases-back_below : goal.decreases-back_below
decreases-back_below l = length l.place.now + length l.place.now
