-- How deep an operation puts a value, how much it copies, and which operation of a list is the first that is over its limits.
use Rattle.std.specs.Prelude.{◌≡◌, ◌≤◌, ◌<◌, ◌+◌, ◌-◌, ℕ, zero, suc, List, [], ◌∷◌, length, Option, Some, None, Result, Ok, Err}
use Rattle.std.specs.Prelude.{Bool, true, false, nat_lt, if◌then◌else◌}
use Rattle.serde_json.specs.Data.{Data, null, boolean, number, string, array, object, Items, no_items, item}
use Rattle.serde_json.specs.Data.{Members, no_members, member, depth}
use Rattle.jsonptr.specs.Text.{Pointer}
use Rattle.json_patch_document.specs.ChangeComputed.{pointee}
use Rattle.json_patch_operation.specs.Operation.{Operation, add, remove, replace, move, copy, test, parts_of}
use Rattle.json_patch_edit.specs.Step.{Leaves}
use Rattle.json_patch_operation.specs.declared.error.PatchError.{PatchError}
use Rattle.json_patch_operation.specs.declared.error.PatchFault.TheVariants.{Refused, Memory}
use Rattle.json_patch_limits.specs.declared.limits.LimitError.{LimitError}
use Rattle.json_patch_limits.specs.declared.limits.LimitFault.{LimitFault}
use Rattle.json_patch_limits.specs.declared.limits.LimitFault.TheVariants.{Over, Patch}
use Rattle.json_patch_limits.specs.declared.limits.Limits.{Limits}
use Rattle.json_patch_limits.specs.declared.limits.LimitKind.{LimitKind}
use Rattle.json_patch_limits.specs.declared.limits.LimitKind.TheVariants.{TooDeep, TooMuch}

-- ---- how deep

-- how deep a value at P reaches, if there is one
abbrev pub reach_at : Pointer → Option Data → ℕ
reach_at P None = 0
reach_at P (Some v) = length P + depth v

-- how deep the value reaches that op puts at its path; a `move` counts only where it leads deeper than where
-- it takes the value
abbrev pub reach_of : Data → Operation → ℕ
reach_of d (add P v) = length P + depth v
reach_of d (remove P) = 0
reach_of d (replace P v) = length P + depth v
reach_of d (move F P) = if nat_lt (length F) (length P) then reach_at P (pointee d F) else 0
reach_of d (copy F P) = reach_at P (pointee d F)
reach_of d (test P v) = 0

-- how many levels the value has that op holds, if it holds one
abbrev pub levels_of : Option Data → ℕ
levels_of None = 0
levels_of (Some v) = depth v

-- the values that the operations hold have at most b levels
abbrev pub AreShallow : ℕ → List Operation → Type 0
AreShallow b [] = Unit {0}
AreShallow b (op ∷ ops) = (levels_of (parts_of op).value ≤ b) × AreShallow b ops

-- ---- how much

-- one for each value in it, and one for each byte of its strings and names
abbrev mutual
  pub size : Data → ℕ
  size null = 1
  size (boolean b) = 1
  size (number n) = 1
  size (string s) = suc (length s)
  size (array ds) = suc (items_size ds)
  size (object ms) = suc (members_size ms)

  pub items_size : Items → ℕ
  items_size no_items = 0
  items_size (item d ds) = size d + items_size ds

  pub members_size : Members → ℕ
  members_size no_members = 0
  members_size (member k d ms) = length k + (size d + members_size ms)

abbrev pub size_at : Option Data → ℕ
size_at None = 0
size_at (Some v) = size v

-- how much of d op copies; in a recorded run also what a `move` moves, since the inverse holds a copy of it
abbrev pub copied_by : Bool → Data → Operation → ℕ
copied_by recorded d (add P v) = 0
copied_by recorded d (remove P) = 0
copied_by recorded d (replace P v) = 0
copied_by recorded d (move F P) = if recorded then size_at (pointee d F) else 0
copied_by recorded d (copy F P) = size_at (pointee d F)
copied_by recorded d (test P v) = 0

abbrev pub tokens_size : Pointer → ℕ
tokens_size [] = 0
tokens_size (t ∷ P) = length t + tokens_size P

-- how much an operation holds itself: its value, and the bytes of its path's tokens
abbrev pub own_size : Operation → ℕ
own_size op = tokens_size (parts_of op).path + size_at (parts_of op).value

abbrev pub own_sizes : List Operation → ℕ
own_sizes [] = 0
own_sizes (op ∷ ops) = own_size op + own_sizes ops

-- how large the values are that the operations hold, all together
abbrev pub values_size : List Operation → ℕ
values_size [] = 0
values_size (op ∷ ops) = size_at (parts_of op).value + values_size ops

-- ---- over the limits, in a run that is recorded or isn't

-- op is over the limits on d, in this way
abbrev pub IsOver : Bool → Limits → Data → Operation → LimitKind → Type 0
IsOver recorded l d op TooDeep = l.depth < reach_of d op
IsOver recorded l d op TooMuch = (reach_of d op ≤ l.depth) × (l.copied < copied_by recorded d op)

-- op is not over
abbrev pub IsUnder : Bool → Limits → Data → Operation → Type 0
IsUnder recorded l d op = (reach_of d op ≤ l.depth) × (copied_by recorded d op ≤ l.copied)

-- what op leaves of the limits: less to copy
abbrev pub left_of : Bool → Limits → Data → Operation → Limits
left_of recorded l d op = record l { copied = l.copied - copied_by recorded d op }

-- the operations before the one at k are accepted and none is over, and the one at k is over, in this way
abbrev pub ComesOver : Bool → Limits → Data → List Operation → ℕ → LimitKind → Type 0
ComesOver recorded l d [] k kind = ⊥
ComesOver recorded l d (op ∷ ops) zero kind = IsOver recorded l d op kind
ComesOver recorded l d (op ∷ ops) (suc k) kind = IsUnder recorded l d op × ((m : Data) × Leaves d op m × ComesOver recorded (left_of recorded l d op) m ops k kind)

-- none comes to be over: up to the end, or to the one that is refused
abbrev pub NeverOver : Bool → Limits → Data → List Operation → Type 0
NeverOver recorded l d ops = (k : ℕ) (kind : LimitKind) → ComesOver recorded l d ops k kind → ⊥

-- the operation at k comes to be over, in this way; no other does, and this one in no other way
pub record IsOverFirst (recorded : Bool) (l : Limits) (d : Data) (ops : List Operation) (k : ℕ) (kind : LimitKind) : Type 0 where
  pub over : ComesOver recorded l d ops k kind
  pub here : (j : ℕ) (other : LimitKind) → ComesOver recorded l d ops j other → (j ≡ k) × (other ≡ kind)

-- the same of a run that isn't recorded, and of one that is
abbrev pub IsOverAt : Limits → Data → List Operation → ℕ → LimitKind → Type 0
IsOverAt l d ops k kind = ComesOver false l d ops k kind

abbrev pub IsNeverOver : Limits → Data → List Operation → Type 0
IsNeverOver l d ops = NeverOver false l d ops

abbrev pub IsOverRecordedAt : Limits → Data → List Operation → ℕ → LimitKind → Type 0
IsOverRecordedAt l d ops k kind = ComesOver true l d ops k kind

abbrev pub IsNeverOverRecorded : Limits → Data → List Operation → Type 0
IsNeverOverRecorded l d ops = NeverOver true l d ops

-- ---- what the calls say

-- what holds of an operation that is over
abbrev pub IfOver : {T : Type 0} → Result T LimitFault → (LimitError → Type 0) → Type 0
IfOver (Ok x) P = Unit {0}
IfOver (Err (Over e)) P = P e
IfOver (Err (Patch fault)) P = Unit {0}

-- what holds where none is over: where the list is accepted, or refused
abbrev pub IfUnder : {T : Type 0} → Result T LimitFault → Type 0 → Type 0
IfUnder (Ok x) P = P
IfUnder (Err (Over e)) P = Unit {0}
IfUnder (Err (Patch (Refused e))) P = P
IfUnder (Err (Patch (Memory e))) P = Unit {0}

-- what holds of a refusal
abbrev pub IfRefusedUnder : {T : Type 0} → Result T LimitFault → (PatchError → Type 0) → Type 0
IfRefusedUnder (Ok x) P = Unit {0}
IfRefusedUnder (Err (Over e)) P = Unit {0}
IfRefusedUnder (Err (Patch (Refused e))) P = P e
IfRefusedUnder (Err (Patch (Memory e))) P = Unit {0}
