-- For private clauses: what an edit makes of a marked document, with the value of its caller, and what it finds for it.
use Rattle.std.specs.Prelude.{◌≡◌, ◌≤◌, ◌⊎◌, ℕ, Bool, true, false, not, List, [], ◌∷◌, Option, Some, None, option_map}
use Rattle.std.specs.Prelude.{option_and_then, unwrap_or, if◌then◌else◌, length, Result, Ok, Err}
use Rattle.std.specs.String.{string_bytes, string_capacity}
use Rattle.serde_json.specs.Data.{Data, array, object, Items, no_items, item}
use Rattle.serde_json.specs.Events.{items_len}
use Rattle.serde_json.specs.Find.{get_member, get_item}
use Rattle.json_patch_document.specs.Document.{IsDocument, Segment, child}
use Rattle.jsonptr.specs.Text.{Pointer, encoded}
use Rattle.json_patch_edit.specs.Attempt.{Excuses}
use Rattle.json_patch_document.specs.ChangeComputed.{without, remove_item, set_child, drop_child, after_change, pointee}
use Rattle.json_patch_document.specs.ChangeComputed.{front_of, last_of}
use Rattle.json_patch_edit.specs.NoMemory.{IsUnescaped}
use Rattle.json_patch_edit.specs.Marked.{is_mark, seen, seen_items, at_shown, at_child, pop_item, restore_child, undo_slot}
use Rattle.json_patch_edit.specs.Marked.{insert_marked, take_marked, swap_marked}
use Rattle.json_patch_edit.specs.declared.error.StepFault.{StepFault}
use Rattle.json_patch_edit.specs.declared.edits.Edit.{Edit}
use Rattle.json_patch_edit.specs.declared.edits.Edit.TheVariants.{Insert, Take, Remove, Swap, Undo, Clear, Sweep}
use Rattle.json_patch_edit.specs.declared.edits.Found.{Found}
use Rattle.json_patch_edit.specs.declared.edits.Found.TheVariants.{Nothing, Former, Taken}
use Rattle.json_patch_edit.specs.declared.edits.Names.{Names}

-- ---- in a container, at a token

abbrev pub remove_marked : List ℕ → Data → Option Data
remove_marked = at_shown drop_child

-- what undoes an edit that found this, with the value that it left
abbrev pub undone : Found → Data → List ℕ → Data → Option Data
undone Nothing v t (array ds) = option_map (λ i. array (remove_item i ds)) (undo_slot t (items_len (seen_items ds)))
undone Nothing v t d = remove_marked t d
undone Former v t d = at_child (λ s c. set_child s v c) t d
undone Taken v t d = at_child (restore_child v) t d

abbrev pub last_item : Items → Option Data
last_item no_items = None
last_item (item d no_items) = Some d
last_item (item d (item e ds)) = last_item (item e ds)

abbrev pub if_mark : Option Data → Data → Option Data
if_mark None d = None
if_mark (Some c) d = if is_mark c then Some d else None

-- the container without the mark that is the member, or without one at the end of the array
abbrev pub clear_in : List ℕ → Data → Option Data
clear_in t (array ds) = if_mark (last_item ds) (array (pop_item ds))
clear_in t (object ms) = if_mark (get_member t ms) (object (without t ms))
clear_in t d = None

-- the container with what is seen of the child in its place
abbrev pub sweep_child : Segment → Data → Data
sweep_child s d = unwrap_or (option_map (λ c. set_child s (seen c) d) (child s d)) d

abbrev pub sweep_in : List ℕ → Data → Option Data
sweep_in = at_shown sweep_child

abbrev pub made : Edit → Data → List ℕ → Data → Option Data
made Insert v t d = insert_marked v t d
made Take v t d = take_marked v t d
made Remove v t d = remove_marked t d
made Swap v t d = swap_marked v t d
made (Undo found) v t d = undone found v t d
made Clear v t d = clear_in t d
made Sweep v t d = sweep_in t d

-- what the edit finds at the token t of d, with the value w for its caller
abbrev pub Finds : Edit → List ℕ → Data → Found → Data → Type 0
Finds Insert t (array ds) Nothing w = Unit {0}
Finds Insert t (object ms) Nothing w = pointee (object ms) (t ∷ []) ≡ None
Finds Insert t (object ms) Former w = pointee (object ms) (t ∷ []) ≡ Some w
Finds Take t d Taken w = pointee d (t ∷ []) ≡ Some w
Finds Remove t d Taken w = pointee d (t ∷ []) ≡ Some w
Finds Swap t d Former w = pointee d (t ∷ []) ≡ Some w
Finds (Undo Nothing) t (array ds) Taken w = option_and_then (λ i. get_item i ds) (undo_slot t (items_len (seen_items ds))) ≡ Some w
Finds (Undo Nothing) t (object ms) Taken w = pointee (object ms) (t ∷ []) ≡ Some w
Finds (Undo Former) t d Former w = pointee d (t ∷ []) ≡ Some w
Finds (Undo Taken) t d found w = Unit {0}
Finds Clear t d found w = Unit {0}
Finds Sweep t d found w = Unit {0}
Finds edit t d found w = ⊥

-- the same in the container that stands at a pointer
abbrev pub FindsAt : Edit → Data → Pointer → List ℕ → Found → Data → Type 0
FindsAt edit d P t found w = (c : Data) × (pointee d P ≡ Some c) × Finds edit t c found w

-- ---- where a pointer leads

abbrev pub made_root : Edit → Data → Data → Option Data
made_root Insert v d = Some v
made_root Swap v d = Some v
made_root (Undo Former) v d = Some v
made_root Sweep v d = Some (seen d)
made_root edit v d = None

abbrev pub FindsRoot : Edit → Data → Found → Data → Type 0
FindsRoot Sweep d found w = Unit {0}
FindsRoot edit d Former w = w ≡ d
FindsRoot edit d found w = ⊥

abbrev pub made_where : Edit → Data → Data → Pointer → Option Data
made_where edit v d [] = made_root edit v d
made_where edit v d (t ∷ P) = after_change (made edit v (last_of t P)) d (front_of t P)

abbrev pub FindsWhere : Edit → Data → Pointer → Found → Data → Type 0
FindsWhere edit d [] found w = FindsRoot edit d found w
FindsWhere edit d (t ∷ P) found w = FindsAt edit d (front_of t P) (last_of t P) found w

-- ---- what an attempt leaves of the document and of the caller's value

abbrev pub Exchanges : Result Found StepFault → Option Data → (Found → Data → Type 0) → Data → Data → Data → Data → Type 0
Exchanges (Ok found) wanted F d e v w = (wanted ≡ Some e) × F found w
Exchanges (Err fault) wanted F d e v w = Excuses fault wanted × (e ≡ d) × (w ≡ v)

-- in a container
abbrev pub ExchangesIn : Result Found StepFault → Edit → List ℕ → Data → Data → Data → Data → Type 0
ExchangesIn r edit t d e v w = Exchanges r (made edit v t d) (Finds edit t d) d e v w

-- ---- without memory

-- how long an escaped token may be whose name takes no memory
abbrev pub room : Names → ℕ
room names = string_capacity names.text

-- the token's name was decoded, or is the token as it stands
abbrev pub IsDecoded : Bool → Names → List ℕ → Type 0
IsDecoded true names t = string_bytes names.text ≡ t
IsDecoded false names t = IsUnescaped t

-- a token whose name takes no memory
abbrev pub Fits : ℕ → List ℕ → Type 0
Fits n t = IsUnescaped t ⊎ (length (encoded t) ≤ n)

abbrev pub AreFitting : ℕ → Pointer → Type 0
AreFitting n [] = Unit {0}
AreFitting n (t ∷ P) = Fits n t × AreFitting n P

-- the edit takes no memory but for a name
abbrev pub IsLight : Edit → Type 0
IsLight Insert = ⊥
IsLight edit = Unit {0}

-- ---- where there is no mark

-- `Remove` is made of documents alone
abbrev pub IsUnmarkedFor : Edit → Data → Type 0
IsUnmarkedFor Remove d = IsDocument d
IsUnmarkedFor edit d = Unit {0}

-- ---- the edits of a member

abbrev pub IsRemoving : Edit → Type 0
IsRemoving Clear = Unit {0}
IsRemoving (Undo Nothing) = Unit {0}
IsRemoving edit = ⊥

abbrev pub IsSwapping : Edit → Type 0
IsSwapping Take = Unit {0}
IsSwapping Swap = Unit {0}
IsSwapping (Undo Former) = Unit {0}
IsSwapping (Undo Taken) = Unit {0}
IsSwapping edit = ⊥

-- whether the edit takes away such a member
abbrev pub is_removable : Edit → Data → Bool
is_removable Clear d = is_mark d
is_removable edit d = not (is_mark d)

-- whether the edit may swap such a member
abbrev pub is_swappable : Edit → Data → Bool
is_swappable (Undo found) d = true
is_swappable edit d = not (is_mark d)

-- what an edit that swaps has found
abbrev pub swapped : Edit → Found
swapped Take = Taken
swapped edit = Former
