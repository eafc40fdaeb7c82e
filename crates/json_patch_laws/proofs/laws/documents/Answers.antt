use Rattle.json_patch_edit.proofs.Locations.{found_computed}
use Rattle.json_patch_laws.proofs.laws.documents.Goals as goal

pub returns-clause-found_is_computed : goal.returns-clause-found_is_computed
returns-clause-found_is_computed c = found_computed
