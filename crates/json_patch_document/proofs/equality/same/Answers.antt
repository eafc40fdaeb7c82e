use Rattle.json_patch_document.proofs.SameDocuments.{same-says, same-document}
use Rattle.json_patch_document.proofs.equality.same.Goals as goal

pub returns-clause-same : goal.returns-clause-same
returns-clause-same c = same-says c.same_values.result _ _ c.same_values.ensures

pub returns-clause-documents : goal.returns-clause-documents
returns-clause-documents c = same-document c.same_values.result _ _ c.same_values.ensures
