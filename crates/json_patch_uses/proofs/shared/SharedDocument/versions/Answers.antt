use Rattle.json_patch_uses.proofs.SharedChanges.{change_keeps, each_is_there}
use Rattle.json_patch_uses.proofs.shared.SharedDocument.versions.Goals as goal

pub returns-clause-each_is_there : goal.returns-clause-each_is_there
returns-clause-each_is_there c = λ s k le. each_is_there c.runs.ensures.run_keeps_documents s k le

pub returns-clause-change_keeps : goal.returns-clause-change_keeps
returns-clause-change_keeps c = λ s t ops k d m v. change_keeps s t ops k d m v
