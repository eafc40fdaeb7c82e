-- For private clauses: a log of changes of a marked document, what undoes them, and what the inverse says of them.
use Rattle.std.specs.Prelude.{◌≡◌, ◌≤◌, ◌+◌, ℕ, List, [], ◌∷◌, ◌++◌, Bool, true, false, Option, Some, None, Result, Ok, length}
use Rattle.serde_json.specs.Data.{Data}
use Rattle.serde_json.specs.View.{view}
use Rattle.serde_json.specs.declared.value.Value.{Value}
use Rattle.jsonptr.specs.Text.{Pointer, IsProperPrefix}
use Rattle.jsonptr.specs.Pointers.{tokens_of}
use Rattle.jsonptr.specs.declared.pointer.Pointer.{Pointer as PointerOf}
use Rattle.json_patch_document.specs.Document.{IsDocument}
use Rattle.json_patch_edit.specs.Exchange.{AreFitting, FindsWhere, made_where, room}
use Rattle.json_patch_edit.specs.Marked.{IsMarked, is_mark, seen}
use Rattle.json_patch_edit.specs.MarkedComputed.{marks}
use Rattle.json_patch_edit.specs.SeenEdits.{found_marks, undo_found}
use Rattle.json_patch_edit.specs.NoMemory.{AreUnescaped}
use Rattle.json_patch_operation.specs.Operation.{Operation, add, remove, replace, move, copy, test, path_of}
use Rattle.json_patch_edit.specs.InverseComputed.{undo_add}
use Rattle.json_patch_edit.specs.declared.error.StepFault.{StepFault}
use Rattle.json_patch_edit.specs.declared.edits.Edit.{Edit}
use Rattle.json_patch_edit.specs.declared.edits.Edit.TheVariants.{Insert, Take, Remove, Swap, Undo}
use Rattle.json_patch_edit.specs.declared.edits.Found.{Found}
use Rattle.json_patch_edit.specs.declared.edits.Found.TheVariants.{Taken}
use Rattle.json_patch.specs.declared.log.Change.{Change}
use Rattle.json_patch.specs.declared.log.Keep.{Keep}
use Rattle.json_patch.specs.declared.log.Keep.TheVariants.{Inverse, Undo as undo_alone, Neither}
use Rattle.json_patch.specs.declared.log.Kept.{Kept}
use Rattle.json_patch.specs.declared.log.Log.{Log}

-- ---- what undoes a change

-- the value that is taken out of q at P goes back to F in r, which leaves p
abbrev pub GoesBack : Option PointerOf → Found → Data → Pointer → Data → Data → Type 0
GoesBack None found q P r p = r ≡ p
GoesBack (Some F) found q P r p = IsMarked r × ((f : Found) (w : Data) → FindsWhere (Undo found) q P f w → made_where (Undo Taken) w r (tokens_of F) ≡ Some p)

-- undoing the change of q leaves p
abbrev pub IsUndone : Change → Data → Data → Type 0
IsUndone c q p = IsMarked q × ((r : Data) × (made_where (Undo c.found) (view c.value) q (tokens_of c.path) ≡ Some r) × GoesBack c.from c.found q (tokens_of c.path) r p)

-- undoing the changes of q, the last first, leaves p
abbrev pub LeadsBack : List Change → Data → Data → Type 0
LeadsBack [] q p = q ≡ p
LeadsBack (c ∷ log) q p = (r : Data) × LeadsBack log q r × IsUndone c r p

abbrev pub IsRoomyFrom : ℕ → Option PointerOf → Type 0
IsRoomyFrom n None = Unit {0}
IsRoomyFrom n (Some F) = AreFitting n (tokens_of F)

-- there is room for the names of the change's places
abbrev pub IsRoomy : ℕ → Change → Type 0
IsRoomy n c = AreFitting n (tokens_of c.path) × IsRoomyFrom n c.from

abbrev pub AreRoomy : ℕ → List Change → Type 0
AreRoomy n [] = Unit {0}
AreRoomy n (c ∷ log) = IsRoomy n c × AreRoomy n log

-- ---- how many marks the changes left

-- one, where a value was taken away: by a `remove`, or from the source of a `move`
abbrev pub taken : Found → Option PointerOf → ℕ
taken Taken F = 1
taken found None = 0
taken found (Some F) = 1

abbrev pub count_some : {T : Type 0} → Option T → ℕ
count_some None = 0
count_some (Some x) = 1

abbrev pub count_true : Bool → ℕ
count_true false = 0
count_true true = 1

abbrev pub takes : List Change → ℕ
takes [] = 0
takes (c ∷ log) = taken c.found c.from + takes log

-- the marks in what the changes found
abbrev pub held : List Change → ℕ
held [] = 0
held (c ∷ log) = found_marks c.found (view c.value) + held log

-- the marks in e, and in what the new changes found, are at most those in d and those that these changes left
abbrev pub Counts : Log → Log → Data → Data → Type 0
Counts olds news d e = marks e + held news.changes.items + takes olds.changes.items ≤ marks d + held olds.changes.items + takes news.changes.items

-- what clearing needs to know of a change of d to e, or of an attempt at it: how many marks there are, and
-- that the names of their places take no memory
pub record Tells (olds news : Log) (d e : Data) : Type 0 where
  pub roomy : AreRoomy (room olds.names) olds.changes.items → AreRoomy (room news.names) news.changes.items
  pub counts : Counts olds news d e
  pub longer : length news.changes.items ≤ length olds.changes.items + 1

-- what a change of d to e, or an attempt at it, does to the log
pub record Logs (olds news : Log) (d e : Data) : Type 0 where
  pub tells : Tells olds news d e
  pub leads : (p : Data) → LeadsBack olds.changes.items d p → LeadsBack news.changes.items e p

-- what is made with nothing kept can't be undone
abbrev pub LogsAs : Result (Unit {0}) StepFault → Keep → Log → Log → Data → Data → Type 0
LogsAs (Ok x) Neither olds news d e = Tells olds news d e
LogsAs r keep olds news d e = Logs olds news d e

-- ---- what the inverse says

abbrev pub put_back : Option (Pointer × Value) → List Operation
put_back None = []
put_back (Some x) = add x.0 (view x.1) ∷ []

abbrev pub kept_block : Option Kept → Found → Data → List Operation
kept_block None found w = []
kept_block (Some k) found w = undo_found k.place found w ∷ put_back k.back

-- the last change's first
abbrev pub kept_blocks : List Change → List Operation
kept_blocks [] = []
kept_blocks (c ∷ log) = kept_blocks log ++ kept_block c.kept c.found (view c.value)

-- these operations are what the log's new end says, if the inverse is kept
abbrev pub Keeps : Keep → Log → Log → List Operation → Type 0
Keeps keep olds news ops = keep ≡ Inverse → kept_blocks news.changes.items ≡ ops ++ kept_blocks olds.changes.items

-- the value that such an edit puts in, or leaves in place of what it takes
abbrev pub IsFor : Edit → Data → Type 0
IsFor Insert v = IsDocument v
IsFor Swap v = IsDocument v
IsFor Take v = IsMarked v × (is_mark v ≡ true)
IsFor edit v = ⊥

-- where a change that the edit makes of d at P is undone
abbrev pub place_undone : Edit → Data → Pointer → Pointer
place_undone Insert d P = path_of (undo_add d P)
place_undone edit d P = P

abbrev pub IsKeptBack : Option PointerOf → Data → Option (Pointer × Value) → Type 0
IsKeptBack None v None = Unit {0}
IsKeptBack (Some F) v (Some x) = (x.0 ≡ tokens_of F) × (view x.1 ≡ seen v)
IsKeptBack F v x = ⊥

-- what is kept of an edit that is undone at P, and of its value v, where that was taken from a pointer F
abbrev pub IsKept : Keep → Pointer → Option PointerOf → Data → Option Kept → Type 0
IsKept Inverse P F v None = ⊥
IsKept Inverse P F v (Some k) = (k.place ≡ P) × IsKeptBack F v k.back
IsKept keep P F v k = k ≡ None

-- the change is the log's new end: it is at P, with what was taken from F, if there is one
pub record IsEnd (P : PointerOf) (F : Option PointerOf) (olds news : Log) (c : Change) : Type 0 where
  pub ends : news.changes.items ≡ olds.changes.items ++ c ∷ []
  pub at : c.path ≡ P
  pub from : c.from ≡ F
  pub fits : AreFitting (room news.names) (tokens_of P)

-- the edit makes the change of d, with v, and leaves e
pub record IsMade (edit : Edit) (keep : Keep) (c : Change) (d v e : Data) : Type 0 where
  pub makes : made_where edit v d (tokens_of c.path) ≡ Some e
  pub finds : FindsWhere edit d (tokens_of c.path) c.found (view c.value)
  pub kept : IsKept keep (place_undone edit (seen d) (tokens_of c.path)) c.from v c.kept

-- v, which a `move` to P takes from F of d, was taken, which leaves m
pub record IsTakenFrom (d m : Data) (F P : Pointer) (v : Data) : Type 0 where
  pub out : IsProperPrefix F P → ⊥
  pub mark : Data
  pub marks : IsMarked mark × (is_mark mark ≡ true)
  pub makes : made_where Take mark d F ≡ Some m
  pub finds : FindsWhere Take d F Taken v

-- ---- what isn't undone

-- whether the run is recorded
abbrev pub is_recorded : Keep → Bool
is_recorded Inverse = true
is_recorded undo_alone = false
is_recorded Neither = false

-- what is kept of an operation, unless the inverse is: nothing of the last one, where the log is empty
abbrev pub kept_at : Keep → Bool → Bool → Keep
kept_at undo_alone true true = Neither
kept_at keep last empty = keep

abbrev pub IsTest : Operation → Type 0
IsTest (test P v) = Unit {0}
IsTest op = ⊥

-- the edit that leaves no mark
abbrev pub lasting : Edit → Edit
lasting Take = Remove
lasting edit = edit

-- an operation that takes no memory: a `test`; where nothing is kept, a `remove` at a pointer whose text holds no ~
abbrev pub IsFree : Operation → Keep → Type 0
IsFree (add P v) keep = ⊥
IsFree (remove P) Neither = AreUnescaped P
IsFree (remove P) keep = ⊥
IsFree (replace P v) keep = ⊥
IsFree (move F P) keep = ⊥
IsFree (copy F P) keep = ⊥
IsFree (test P v) keep = Unit {0}
