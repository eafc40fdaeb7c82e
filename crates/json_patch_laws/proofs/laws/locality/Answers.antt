use Rattle.json_patch_laws.proofs.Locality.{runs_alike, inverses_alike}
use Rattle.json_patch_laws.proofs.Sections.{elsewhere_kept}
use Rattle.json_patch_laws.proofs.SharedTokens.{shared_iff}
use Rattle.json_patch_laws.proofs.laws.locality.Goals as goal

pub returns-clause-local_run : goal.returns-clause-local_run
returns-clause-local_run c = runs_alike

pub returns-clause-local_inverse : goal.returns-clause-local_inverse
returns-clause-local_inverse c = inverses_alike

pub returns-clause-shared_is_computed : goal.returns-clause-shared_is_computed
returns-clause-shared_is_computed c = shared_iff

pub returns-clause-elsewhere_kept : goal.returns-clause-elsewhere_kept
returns-clause-elsewhere_kept c = elsewhere_kept
