-- For private clauses: an edit of a marked document, as it is seen.
use Rattle.std.specs.Prelude.{◌≡◌, List, [], ◌∷◌, ℕ, true, false, Option, Some, None, option_map}
use Rattle.serde_json.specs.Data.{Data, array}
use Rattle.serde_json.specs.Events.{items_len}
use Rattle.jsonptr.specs.Text.{Pointer}
use Rattle.json_patch_document.specs.ChangeComputed.{put_in, take_from, after_change, after_add, after_remove, after_replace}
use Rattle.json_patch_edit.specs.InverseComputed.{block, undo_add, undo_at}
use Rattle.json_patch_operation.specs.Operation.{Operation, add, remove, replace, move, copy, test, path_of}
use Rattle.json_patch_edit.specs.Marked.{is_mark, shown, seen, IsMarked, IsValue}
use Rattle.json_patch_edit.specs.declared.edits.Edit.{Edit}
use Rattle.json_patch_edit.specs.declared.edits.Edit.TheVariants.{Insert, Take, Remove, Swap, Clear, Sweep}
use Rattle.json_patch_edit.specs.declared.edits.Found.{Found}
use Rattle.json_patch_edit.specs.declared.edits.Found.TheVariants.{Nothing, Former, Taken}
use Rattle.json_patch_edit.specs.MarkedComputed.{marks}

-- an operation's edit, with a value that suits it: one to put in, or a mark to leave
abbrev pub Suits : Edit → Data → Type 0
Suits Insert v = IsValue v
Suits Take v = IsMarked v × (is_mark v ≡ true)
Suits Remove v = Unit {0}
Suits Swap v = IsValue v
Suits edit v = ⊥

-- what the edit found undoes it
abbrev pub IsReversible : Edit → Data → Type 0
IsReversible Insert v = is_mark v ≡ false
IsReversible Take v = Unit {0}
IsReversible Swap v = Unit {0}
IsReversible edit v = ⊥

-- the edit takes a value away
abbrev pub IsTaking : Edit → Type 0
IsTaking Take = Unit {0}
IsTaking Remove = Unit {0}
IsTaking edit = ⊥

-- the edit wants a value at its place
abbrev pub WantsValue : Edit → Type 0
WantsValue Take = Unit {0}
WantsValue Remove = Unit {0}
WantsValue Swap = Unit {0}
WantsValue edit = ⊥

-- the edit changes marks alone
abbrev pub IsUnseen : Edit → Type 0
IsUnseen Clear = Unit {0}
IsUnseen Sweep = Unit {0}
IsUnseen edit = ⊥

-- what an operation's edit makes of what is seen of a container
abbrev pub seen_made : Edit → Data → List ℕ → Data → Option Data
seen_made Insert v t d = put_in v t d
seen_made Take v t d = take_from t d
seen_made Remove v t d = take_from t d
seen_made Swap v t d = after_change (λ c. Some v) d (t ∷ [])
seen_made edit v t d = None

-- and of a document, where a pointer leads
abbrev pub seen_where : Edit → Data → Data → Pointer → Option Data
seen_where Insert v d P = after_add d P v
seen_where Take v d P = after_remove d P
seen_where Remove v d P = after_remove d P
seen_where Swap v d P = after_replace d P v
seen_where edit v d P = None

-- ---- the operations that edits make, and what undoes them

abbrev pub operation_at : Edit → Pointer → Data → Operation
operation_at Insert P v = add P v
operation_at Swap P v = replace P v
operation_at edit P v = remove P

-- where the operation works that takes back this one
abbrev pub place_to_undo : Data → Operation → Pointer
place_to_undo d (add P v) = path_of (undo_add d P)
place_to_undo d (remove P) = P
place_to_undo d (replace P v) = P
place_to_undo d (move F P) = P
place_to_undo d (copy F P) = path_of (undo_add d P)
place_to_undo d (test P v) = P

-- what takes back, at this place, an edit that found this: where a mark stood, nothing is seen
abbrev pub undo_found : Pointer → Found → Data → Operation
undo_found P Nothing w = remove P
undo_found P Former w = undo_at P (option_map seen (shown (Some w)))
undo_found P Taken w = add P (seen w)

-- what was found tells what undoes op, an operation of one edit
abbrev pub IsUndoneBy : Data → Operation → Found → Data → Type 0
IsUndoneBy d op found w = block d op ≡ undo_found (place_to_undo d op) found w ∷ []

-- ---- how many marks an edit finds, and puts in

abbrev pub found_marks : Found → Data → ℕ
found_marks Nothing w = 0
found_marks found w = marks w

abbrev pub put_marks : Edit → Data → ℕ
put_marks Remove v = 0
put_marks edit v = marks v

-- how many elements an array has
abbrev pub count_in : Option Data → Option ℕ
count_in (Some (array ds)) = Some (items_len ds)
count_in d = None
