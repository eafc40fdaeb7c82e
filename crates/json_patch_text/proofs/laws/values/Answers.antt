use Rattle.json_patch_text.proofs.Whole.{as_written}
use Rattle.json_patch_text.proofs.laws.values.Goals as goal

pub returns : goal.returns
returns c = record { as_written = as_written }
