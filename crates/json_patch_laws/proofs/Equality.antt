-- What the laws of equality follow from.
use Rattle.json_patch_document.specs.SameLaws.{AreSame-refl, AreSame-sym, AreSame-trans}
use Rattle.json_patch_document.proofs.SameDocuments.{AreSame-document}
use Rattle.json_patch_operation.proofs.SameOperations.{AreSameLists-whole}

pub ruleset laws_of_equality = (AreSame-refl, AreSame-sym, AreSame-trans, AreSame-document, AreSameLists-whole)
