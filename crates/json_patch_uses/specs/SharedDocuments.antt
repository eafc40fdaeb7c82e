-- The versions of a shared document, and what a change makes of them.
use Rattle.std.specs.Prelude.{◌≡◌, ◌≤◌, ◌<◌, ◌++◌, ◌+◌, ℕ, List, [], ◌∷◌, length, drop}
use Rattle.std.specs.List.{AllWithin, HoldsAt}
use Rattle.serde_json.specs.Data.{Data}
use Rattle.serde_json.specs.View.{view}
use Rattle.json_patch.specs.Apart.{AreApart}
use Rattle.json_patch.specs.Document.{IsDocument}
use Rattle.json_patch.specs.Inverse.{IsInverse}
use Rattle.json_patch.specs.Operation.{Operation}
use Rattle.json_patch.specs.Refusal.{NamesFirst}
use Rattle.json_patch.specs.Run.{Accepts}
use Rattle.json_patch_uses.specs.History.{Lead, joined, patch_of, undo_of}
use Rattle.json_patch_uses.specs.declared.history.Change.{Change}
use Rattle.json_patch_uses.specs.declared.shared.ChangeFault.{ChangeFault}
use Rattle.json_patch_uses.specs.declared.shared.ChangeFault.TheVariants.{NoVersion, Conflict, Refused, Memory}
use Rattle.json_patch_uses.specs.declared.shared.SharedDocument.{SharedDocument}

abbrev pub document_of : SharedDocument → Data
document_of s = view s.document

-- the number of its version: how many changes led to it
abbrev pub version_of : SharedDocument → ℕ
version_of s = length s.changes.items

-- the operations of all changes since the version k
abbrev pub since : SharedDocument → ℕ → List Operation
since s k = joined (drop k s.changes.items)

-- d is the version k
pub record IsVersion (s : SharedDocument) (k : ℕ) (d : Data) : Type 0 where
  pub document : IsDocument d
  pub counted : k ≤ version_of s
  pub leads : Lead d (drop k s.changes.items) (document_of s)

-- there is a version k, and this holds of it
pub record AtVersion (s : SharedDocument) (k : ℕ) (Holds : Data → Type 0) : Type 0 where
  pub there : ∥ ((d : Data) × IsVersion s k d) ∥₁
  pub holds : (d : Data) → IsVersion s k d → Holds d

-- one change more leads from the document of s to that of t
abbrev pub IsMade : SharedDocument → List Operation → SharedDocument → Type 0
IsMade s ops t =
    (c : Change) × (t.changes.items ≡ s.changes.items ++ c ∷ []) × (patch_of c ≡ ops) × Accepts (document_of s) ops (document_of t)
    × IsInverse (document_of s) ops (undo_of c)

-- one change more leads from the document of s to that of t, the undo that is stored with the change to version k
abbrev pub IsTakenBack : SharedDocument → ℕ → SharedDocument → Type 0
IsTakenBack s k t = HoldsAt (λ c. IsMade s (undo_of c) t) s.changes.items k

-- the document and its changes are the same
abbrev pub AreKept : SharedDocument → SharedDocument → Type 0
AreKept s t = (document_of t ≡ document_of s) × (t.changes.items ≡ s.changes.items)

-- the change that was made to version v is the first since version k from which the operations are not apart
pub record CollidesAt (s : SharedDocument) (k : ℕ) (ops : List Operation) (v : ℕ) : Type 0 where
  pub since : k ≤ v
  pub made : v < version_of s
  pub before : AllWithin (λ c. AreApart ops (patch_of c)) s.changes.items k v
  pub there : HoldsAt (λ c. AreApart ops (patch_of c) → ⊥) s.changes.items v

-- why a change that was meant for version k is not made: what refuses it there refuses it here
abbrev pub IsUpdateFault : SharedDocument → ℕ → List Operation → ChangeFault → Type 0
IsUpdateFault s k ops NoVersion = version_of s < k
IsUpdateFault s k ops (Conflict v) = CollidesAt s k ops v
IsUpdateFault s k ops (Refused e) = AtVersion s k (λ d. NamesFirst d ops e)
IsUpdateFault s k ops (Memory e) = Unit {0}

-- why the change that was made to version k is not taken back: it is never refused
abbrev pub IsUndoFault : SharedDocument → ℕ → ChangeFault → Type 0
IsUndoFault s k NoVersion = version_of s ≤ k
IsUndoFault s k (Conflict v) = HoldsAt (λ c. CollidesAt s (k + 1) (patch_of c) v) s.changes.items k
IsUndoFault s k (Refused e) = ⊥
IsUndoFault s k (Memory e) = Unit {0}
