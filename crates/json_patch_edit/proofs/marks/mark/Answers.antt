use Rattle.std.specs.Float.{float_is_finite}
use Rattle.std.specs.Float.Ieee.{of_bits}
use Rattle.json_patch_edit.proofs.marks.mark.Goals as goal

pub returns : goal.returns
unfolding float_is_finite of_bits
returns c = c.from.ensures
