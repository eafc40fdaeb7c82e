use Rattle.json_patch_editor.proofs.Replying.{one_more}
use Rattle.json_patch_editor.proofs.laws.one_more_reply.Goals as goal

pub returns : goal.returns
returns c = one_more
