-- The operations that undo a run, computed.
use Rattle.std.specs.Prelude.{ℕ, List, [], ◌∷◌, ◌++◌, bytes_eq, Option, Some, None, Result, Ok, Err, if◌then◌else◌}
use Rattle.serde_json.specs.Data.{Data, array}
use Rattle.serde_json.specs.Events.{items_len}
use Rattle.jsonptr.specs.Text.{Pointer}
use Rattle.jsonptr.specs.Places.{decimal_token, next_token}
use Rattle.json_patch_operation.specs.Operation.{Operation, add, remove, replace, move, copy, test}
use Rattle.json_patch_operation.specs.declared.error.PatchErrorKind.{PatchErrorKind}
use Rattle.json_patch_document.specs.ChangeComputed.{after_remove, pointee, front_of, last_of}
use Rattle.json_patch_edit.specs.RunComputed.{after_step}

-- a last token `-` written as the index of its target, where the parent is an array
abbrev pub settled_token : Option Data → List ℕ → List ℕ
settled_token (Some (array ds)) t = if bytes_eq t next_token then decimal_token (items_len ds) else t
settled_token o t = t

abbrev pub undo_at : Pointer → Option Data → Operation
undo_at P None = remove P
undo_at P (Some w) = replace P w

abbrev pub undo_in : Data → Pointer → List ℕ → Pointer → Option Data → Operation
undo_in d front last P (Some (array ds)) = remove (front ++ settled_token (Some (array ds)) last ∷ [])
undo_in d front last P o = undo_at P (pointee d P)

-- the operation that undoes an add at P on d
abbrev pub undo_add : Data → Pointer → Operation
undo_add d [] = replace [] d
undo_add d (t ∷ P) = undo_in d (front_of t P) (last_of t P) (t ∷ P) (pointee d (front_of t P))

abbrev pub with_found : {X : Type 0} → Option X → (X → List Operation) → List Operation
with_found None f = []
with_found (Some w) f = f w

abbrev pub with_left : Result Data PatchErrorKind → (Data → List Operation) → List Operation
with_left (Err kind) f = []
with_left (Ok m) f = f m

-- what undoes an accepted operation on d
abbrev pub block : Data → Operation → List Operation
block d (add P v) = undo_add d P ∷ []
block d (remove P) = with_found (pointee d P) (λ w. add P w ∷ [])
block d (replace P v) = with_found (pointee d P) (λ w. replace P w ∷ [])
block d (move F P) = with_found (pointee d F) (λ v. with_found (after_remove d F) (λ m. undo_add m P ∷ add F v ∷ []))
block d (copy F P) = undo_add d P ∷ []
block d (test P v) = []

-- the blocks of an accepted list, the last operation's first, each on the state before it
abbrev pub inverse : Data → List Operation → List Operation
inverse d [] = []
inverse d (op ∷ ops) = with_left (after_step d op) (λ m. inverse m ops) ++ block d op
