use Rattle.json_patch_editor.proofs.Replying.{bounded}
use Rattle.json_patch_editor.proofs.laws.versions_stay_bounded.Goals as goal

pub returns : goal.returns
returns c = bounded
