-- Patches that lead from one document to the next.
use Rattle.std.specs.Prelude.{◌≡◌, List, [], ◌∷◌, Result, Ok, Err, Bool, true, false}
use Rattle.serde_json.specs.Data.{Data}
use Rattle.json_patch.specs.Operation.{AreWhole, operations_of}
use Rattle.json_patch.specs.Run.{IsAccepted}
use Rattle.json_patch.specs.RunComputed.{Outcome, after_run}
use Rattle.json_patch.specs.Patch.{Patch}
use Rattle.std.specs.declared.alloc.AllocError.{AllocError}

abbrev pub documents_from : Outcome → (Data → List Data) → List Data
documents_from (Ok e) rest = e ∷ rest e
documents_from (Err f) rest = []

-- the documents to which the patches lead from d, one after another
abbrev pub documents_along : Data → List Patch → List Data
documents_along d [] = []
documents_along d (p ∷ ps) = documents_from (after_run d (operations_of p)) (λ e. documents_along e ps)

-- the patches are accepted one after another, and leave these documents
abbrev pub Lead : Data → List Patch → List Data → Type 0
Lead d [] [] = Unit {0}
Lead d (p ∷ ps) (e ∷ es) = IsAccepted d (operations_of p) e × Lead e ps es
Lead d ps es = ⊥

-- for a private clause: nothing has changed
abbrev pub AreKept : Data → List Patch → List Patch → Data → List Patch → List Patch → Type 0
AreKept d from to e left grown = (e ≡ d) × (left ≡ from) × (grown ≡ to)

-- for a private clause: p was taken and run, and q leads back
pub record IsTaken (d : Data) (from to : List Patch) (e : Data) (left grown : List Patch) : Type 0 where
  pub p : Patch
  pub q : Patch
  pub from_is : from ≡ p ∷ left
  pub grown_is : grown ≡ q ∷ to
  pub whole : AreWhole (operations_of q)
  pub leads : after_run d (operations_of p) ≡ Ok e
  pub leads_back : after_run e (operations_of q) ≡ Ok d

-- for a private clause: a step back or on
abbrev pub Shifts : Result Bool AllocError → Data → List Patch → List Patch → Data → List Patch → List Patch → Type 0
Shifts (Ok true) d from to e left grown = IsTaken d from to e left grown
Shifts (Ok false) d from to e left grown = (from ≡ []) × AreKept d from to e left grown
Shifts (Err f) d from to e left grown = AreKept d from to e left grown
