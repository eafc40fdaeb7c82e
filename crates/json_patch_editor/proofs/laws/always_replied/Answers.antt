use Rattle.json_patch_editor.proofs.Replying.{always}
use Rattle.json_patch_editor.proofs.laws.always_replied.Goals as goal

pub returns : goal.returns
returns c = always c.runs.ensures.run_ends c.runs.ensures.run_keeps_documents
