use Rattle.json_patch_editor.proofs.Replying.{joined}
use Rattle.json_patch_editor.proofs.laws.joined_replies.Goals as goal

pub returns : goal.returns
returns c = joined
