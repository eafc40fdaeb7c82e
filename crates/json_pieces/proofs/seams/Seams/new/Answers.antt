use Rattle.std.proofs.Common.{length, ap}
use Rattle.json_pieces.proofs.seams.Seams.new.Goals as goal

pub invariant_of-result : goal.invariant_of-result
invariant_of-result c = record { counted = ap length c.new.ensures.items; agrees = tt }
