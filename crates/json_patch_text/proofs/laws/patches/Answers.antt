use Rattle.json_patch_text.proofs.Patches.{one_patch, read_or_not, read_under}
use Rattle.json_patch_text.proofs.laws.patches.Goals as goal

pub returns-clause-read_under_each : goal.returns-clause-read_under_each
returns-clause-read_under_each c = read_under

pub returns-clause-read_or_refused : goal.returns-clause-read_or_refused
returns-clause-read_or_refused c = read_or_not

pub returns-clause-one_patch : goal.returns-clause-one_patch
returns-clause-one_patch c = one_patch
