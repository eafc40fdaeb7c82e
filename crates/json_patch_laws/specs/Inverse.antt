-- The operations that undo a run.
use Rattle.std.specs.Prelude.{◌≡◌, ◌⊎◌, ℕ, List, [], ◌∷◌, ◌++◌, Some}
use Rattle.serde_json.specs.Data.{Data, array, Items}
use Rattle.jsonptr.specs.Text.{Pointer}
use Rattle.jsonptr.specs.Places.{place_of, next_token}
use Rattle.json_patch_document.specs.Document.{Segment, key, place}
use Rattle.json_patch_document.specs.Resolve.{HasTarget, StandsAt}
use Rattle.json_patch_edit.specs.Change.{IsRemoved}
use Rattle.json_patch_operation.specs.Operation.{Operation, add, remove, replace, move, copy, test}
use Rattle.json_patch_edit.specs.Step.{Never, Leaves}

-- u takes back what an add at P put at the step s: it removes a member that was not there, puts back one that
-- was, or removes the element, with its index in place of the last token of P
abbrev pub TakesBack : Data → Pointer → Segment → Operation → Type 0
TakesBack d P (key k) u = (Never (StandsAt d P) × (u ≡ remove P)) ⊎ ((w : Data) × StandsAt d P w × (u ≡ replace P w))
TakesBack d P (place i) u = (front : Pointer) × (last t : List ℕ) × (P ≡ front ++ last ∷ []) × (place_of t ≡ Some i) × (u ≡ remove (front ++ t ∷ []))

-- u undoes an add at P on d: at the root it puts back d, and elsewhere it takes back what came to P's target
abbrev pub UndoesAdd : Data → Pointer → Operation → Type 0
UndoesAdd d [] u = u ≡ replace [] d
UndoesAdd d (t ∷ P) u = (L : List Segment) × (s : Segment) × HasTarget d (t ∷ P) L s × TakesBack d (t ∷ P) s u

-- B undoes op, accepted on d
abbrev pub IsBlock : Data → Operation → List Operation → Type 0
IsBlock d (add P v) B = (u : Operation) × UndoesAdd d P u × (B ≡ u ∷ [])
IsBlock d (remove P) B = (w : Data) × StandsAt d P w × (B ≡ add P w ∷ [])
IsBlock d (replace P v) B = (w : Data) × StandsAt d P w × (B ≡ replace P w ∷ [])
IsBlock d (move F P) B = (v m : Data) × (u : Operation) × StandsAt d F v × IsRemoved d F m × UndoesAdd m P u × (B ≡ u ∷ add F v ∷ [])
IsBlock d (copy F P) B = (u : Operation) × UndoesAdd d P u × (B ≡ u ∷ [])
IsBlock d (test P v) B = B ≡ []

-- the list is accepted on d, and I is its blocks, the last operation's first, each taken on the state before its operation
abbrev pub IsInverse : Data → List Operation → List Operation → Type 0
IsInverse d [] I = I ≡ []
IsInverse d (op ∷ ops) I = (m : Data) × (J B : List Operation) × Leaves d op m × IsInverse m ops J × IsBlock d op B × (I ≡ J ++ B)

-- no token of P is `-` where the tokens before it lead to an array of d
abbrev pub NamesNoNext : Data → Pointer → Type 0
NamesNoNext d P = (front rest : Pointer) (ds : Items) → P ≡ front ++ next_token ∷ rest → StandsAt d front (array ds) → ⊥

-- an add, remove or replace, with no `-` for an index of an array of d
abbrev pub IsPlain : Data → Operation → Type 0
IsPlain d (add P v) = NamesNoNext d P
IsPlain d (remove P) = NamesNoNext d P
IsPlain d (replace P v) = NamesNoNext d P
IsPlain d (move F P) = ⊥
IsPlain d (copy F P) = ⊥
IsPlain d (test P v) = ⊥

-- the list is accepted on d, and each operation is plain on the state that it is made on
abbrev pub ArePlain : Data → List Operation → Type 0
ArePlain d [] = Unit {0}
ArePlain d (op ∷ ops) = (m : Data) × IsPlain d op × Leaves d op m × ArePlain m ops
