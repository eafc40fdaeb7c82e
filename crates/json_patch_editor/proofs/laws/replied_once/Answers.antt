use Rattle.json_patch_editor.proofs.Replying.{once}
use Rattle.json_patch_editor.proofs.laws.replied_once.Goals as goal

pub returns : goal.returns
returns c = once c.runs.ensures.run_ends c.runs.ensures.run_keeps_documents
