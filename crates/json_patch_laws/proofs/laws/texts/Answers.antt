use Rattle.json_patch_operation.proofs.SaidTexts.{one_patch, patch_no_fault}
use Rattle.json_patch_laws.proofs.laws.texts.Goals as goal

pub returns-clause-one_patch : goal.returns-clause-one_patch
returns-clause-one_patch c = one_patch

pub returns-clause-patch_has_no_fault : goal.returns-clause-patch_has_no_fault
returns-clause-patch_has_no_fault c = patch_no_fault
