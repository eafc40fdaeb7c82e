-- Patches that are accepted one after another, as those that take changes back, the latest first.
use Rattle.std.specs.Prelude.{◌≡◌, List, [], ◌∷◌, Ok, Err}
use Rattle.serde_json.specs.Data.{Data}
use Rattle.json_patch_operation.specs.Operation.{AreWhole, operations_of}
use Rattle.json_patch_laws.specs.Run.{IsAccepted}
use Rattle.json_patch_edit.specs.RunComputed.{Outcome, after_run}
use Rattle.json_patch_operation.specs.declared.operation.Patch.{Patch}

-- the first patch is accepted on d, each other on what the one before it left, and the last leaves e
abbrev pub LeadsTo : Data → List Patch → Data → Type 0
LeadsTo d [] e = d ≡ e
LeadsTo d (p ∷ ps) e = (m : Data) × IsAccepted d (operations_of p) m × LeadsTo m ps e

abbrev pub AreEachWhole : List Patch → Type 0
AreEachWhole [] = Unit {0}
AreEachWhole (p ∷ ps) = AreWhole (operations_of p) × AreEachWhole ps

abbrev pub IfEnds : Outcome → (Data → Type 0) → Type 0
IfEnds (Ok e) P = P e
IfEnds (Err f) P = ⊥

-- the patches are each whole and lead from d to some document: by what is computed, so that it can be a ghost field
abbrev pub IsTrail : Data → List Patch → Type 0
IsTrail d [] = Unit {0}
IsTrail d (p ∷ ps) = AreWhole (operations_of p) × IfEnds (after_run d (operations_of p)) (λ e. IsTrail e ps)
