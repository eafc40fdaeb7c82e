-- A list of operations, one after another (RFC 6902, section 5).
use Rattle.std.specs.Prelude.{◌≡◌, ℕ, zero, suc, List, [], ◌∷◌, ◌⊎◌}
use Rattle.serde_json.specs.Data.{Data}
use Rattle.json_patch_operation.specs.Operation.{Operation, test}
use Rattle.json_patch_operation.specs.declared.error.PatchErrorKind.{PatchErrorKind}
use Rattle.json_patch_edit.specs.Step.{Leaves, Refuses}

-- every operation is accepted on what the ones before left, and the last leaves e
abbrev pub Accepts : Data → List Operation → Data → Type 0
Accepts d [] e = d ≡ e
Accepts d (op ∷ ops) e = (m : Data) × Leaves d op m × Accepts m ops e

-- the operations before the one at k are accepted, and it is refused for this kind
abbrev pub RefusesAt : Data → List Operation → ℕ → PatchErrorKind → Type 0
RefusesAt d [] k kind = ⊥
RefusesAt d (op ∷ ops) zero kind = Refuses d op kind
RefusesAt d (op ∷ ops) (suc k) kind = (m : Data) × Leaves d op m × RefusesAt m ops k kind

-- the list is accepted, with this end and no other, and refused nowhere
pub record IsAccepted (d : Data) (ops : List Operation) (e : Data) : Type 0 where
  pub accepts : Accepts d ops e
  pub end : (f : Data) → Accepts d ops f → f ≡ e
  pub nowhere : (k : ℕ) (kind : PatchErrorKind) → RefusesAt d ops k kind → ⊥

-- the list is refused at k for this kind, at no other operation, for no other kind, and it has no end
pub record IsRefused (d : Data) (ops : List Operation) (k : ℕ) (kind : PatchErrorKind) : Type 0 where
  pub refuses : RefusesAt d ops k kind
  pub here : (j : ℕ) (other : PatchErrorKind) → RefusesAt d ops j other → (j ≡ k) × (other ≡ kind)
  pub never : (e : Data) → Accepts d ops e → ⊥

abbrev pub Ends : Data → List Operation → Type 0
Ends d ops = ((e : Data) × IsAccepted d ops e) ⊎ ((k : ℕ) × (kind : PatchErrorKind) × IsRefused d ops k kind)

abbrev pub AreTests : List Operation → Type 0
AreTests [] = Unit {0}
AreTests (test P v ∷ ops) = AreTests ops
AreTests (op ∷ ops) = ⊥
