-- What undoes operations on a tree (RFC 6902): the inverse on its document, under each reading.
use Rattle.std.specs.Prelude.{◌≡◌, ℕ, List, [], ◌∷◌, ◌++◌, bytes_eq, Option, Some, None, if◌then◌else◌}
use Rattle.json.specs.Json.{Json, array, Items}
use Rattle.jsonptr.specs.Places.{decimal_token, next_token}
use Rattle.jsonptr.specs.Text.{Pointer}
use Rattle.json_patch_document.specs.ChangeComputed.{front_of, last_of}
use Rattle.json_patch_laws.specs.Inverse.{IsInverse}
use Rattle.json_patch_text.specs.Changed.{count, removed}
use Rattle.json_text.specs.Pointed.{tree_at}
use Rattle.json_reading.specs.Reading.{Reading}
use Rattle.json_reading.specs.Trees.{data_of}
use Rattle.json_patch_text.specs.Operations.{TreeOperation, add, remove, replace, move, copy, test, all_under}

-- ---- what undoes an operation

-- a last token `-` in an array, as the number of the element that is added
abbrev pub settled : Items → List ℕ → List ℕ
settled js t = if bytes_eq t next_token then decimal_token (count js) else t

abbrev pub undo_there : Pointer → Option Json → TreeOperation
undo_there P None = remove P
undo_there P (Some w) = replace P w

abbrev pub undo_below : Json → Pointer → List ℕ → Pointer → Option Json → TreeOperation
undo_below i front last P (Some (array js)) = remove (front ++ settled js last ∷ [])
undo_below i front last P o = undo_there P (tree_at P i)

-- what undoes an add at P on i: the first tree put back at the root, the element taken out of its array, the member's old value put
-- back, or the member taken out
abbrev pub undo_added : Json → Pointer → TreeOperation
undo_added i [] = replace [] i
undo_added i (t ∷ P) = undo_below i (front_of t P) (last_of t P) (t ∷ P) (tree_at (front_of t P) i)

-- B undoes op, accepted on i: at most two operations, whose values stand there before it
abbrev pub Undoes : Json → TreeOperation → List TreeOperation → Type 0
Undoes i (add P v) B = B ≡ undo_added i P ∷ []
Undoes i (remove P) B = (w : Json) × (tree_at P i ≡ Some w) × (B ≡ add P w ∷ [])
Undoes i (replace P v) B = (w : Json) × (tree_at P i ≡ Some w) × (B ≡ replace P w ∷ [])
Undoes i (move F P) B = (v m : Json) × (tree_at F i ≡ Some v) × (removed F i ≡ Some m) × (B ≡ undo_added m P ∷ add F v ∷ [])
Undoes i (copy F P) B = B ≡ undo_added i P ∷ []
Undoes i (test P v) B = B ≡ []

-- under each reading, I is the inverse of the operations, which are accepted
abbrev pub IsTreeInverse : Json → List TreeOperation → List TreeOperation → Type 0
IsTreeInverse i ops I = (r : Reading) → IsInverse (data_of r i) (all_under r ops) (all_under r I)
