-- Marked documents: a number that isn't whole stands where there is nothing.
use Rattle.std.specs.Prelude.{◌≡◌, ℕ, zero, suc, Bool, true, false, List, Option, Some, None, option_map}
use Rattle.std.specs.Prelude.{option_and_then, if◌then◌else◌}
use Rattle.std.specs.Float.{binary64}
use Rattle.std.specs.Float.Ieee.{of_bits}
use Rattle.serde_json.specs.Data.{float, Data, null, boolean, number, string, array, object, Items, no_items, item}
use Rattle.serde_json.specs.Data.{Members, no_members, member, put}
use Rattle.serde_json.specs.Events.{items_len}
use Rattle.json_patch_document.specs.Document.{IsBelowMembers, Segment, key, place, child}
use Rattle.json_patch_document.specs.ChangeComputed.{insert_item, remove_item, set_child, segment_of, slot_in}

abbrev pub is_mark : Data → Bool
is_mark (number (float x)) = true
is_mark d = false

-- 0.5
abbrev pub the_mark : Data
the_mark = number (float (of_bits binary64 4602678819172646912))

-- what stands there, if that is no mark
abbrev pub shown : Option Data → Option Data
shown None = None
shown (Some d) = if is_mark d then None else Some d

abbrev pub member_unless : Bool → List ℕ → Data → Members → Members
member_unless true k d ms = ms
member_unless false k d ms = member k d ms

abbrev pub item_unless : Bool → Data → Items → Items
item_unless true d ds = no_items
item_unless false d ds = item d ds

-- what a marked document stands for: it has no member that is a mark, and no element from the first mark on
abbrev mutual
  pub seen : Data → Data
  seen null = null
  seen (boolean b) = boolean b
  seen (number n) = number n
  seen (string s) = string s
  seen (array ds) = array (seen_items ds)
  seen (object ms) = object (seen_members ms)

  pub seen_items : Items → Items
  seen_items no_items = no_items
  seen_items (item d ds) = item_unless (is_mark d) (seen d) (seen_items ds)

  pub seen_members : Members → Members
  seen_members no_members = no_members
  seen_members (member k d ms) = member_unless (is_mark d) k (seen d) (seen_members ms)

abbrev pub AreMarks : Items → Type 0
AreMarks no_items = Unit {0}
AreMarks (item d ds) = (is_mark d ≡ true) × AreMarks ds

-- in each object each name once, in byte order, and in each array the marks last
abbrev mutual
  pub IsMarked : Data → Type 0
  IsMarked null = Unit {0}
  IsMarked (boolean b) = Unit {0}
  IsMarked (number n) = Unit {0}
  IsMarked (string s) = Unit {0}
  IsMarked (array ds) = AreMarkedItems ds
  IsMarked (object ms) = AreMarkedMembers ms

  pub AreMarkedItems : Items → Type 0
  AreMarkedItems no_items = Unit {0}
  AreMarkedItems (item d ds) = IsMarked d × (is_mark d ≡ true → AreMarks ds) × AreMarkedItems ds

  pub AreMarkedMembers : Members → Type 0
  AreMarkedMembers no_members = Unit {0}
  AreMarkedMembers (member k d ms) = IsBelowMembers k ms × IsMarked d × AreMarkedMembers ms

-- no mark itself
abbrev pub IsValue : Data → Type 0
IsValue v = IsMarked v × (is_mark v ≡ false)

-- p, which is no mark itself, stands for d
pub record IsSeen (p d : Data) : Type 0 where
  pub marked : IsMarked p
  pub stands : is_mark p ≡ false
  pub is : seen p ≡ d

-- ---- the edits of a marked container

abbrev pub push_item : Data → Items → Items
push_item v no_items = item v no_items
push_item v (item d ds) = item d (push_item v ds)

abbrev pub pop_item : Items → Items
pop_item no_items = no_items
pop_item (item d no_items) = no_items
pop_item (item d (item e ds)) = item d (pop_item (item e ds))

-- a mark in the child's place: an element goes, and the mark is put last
abbrev pub mark_child : Data → Segment → Data → Data
mark_child m (key k) (object ms) = object (put k m ms)
mark_child m (place i) (array ds) = array (push_item m (remove_item i ds))
mark_child m s d = d

-- h of the container, where a child that is no mark stands at the token
abbrev pub at_shown : (Segment → Data → Data) → List ℕ → Data → Option Data
at_shown h t d = option_and_then (λ s. option_map (λ c. h s d) (shown (child s d))) (segment_of d t)

abbrev pub insert_marked : Data → List ℕ → Data → Option Data
insert_marked v t (array ds) = option_map (λ i. array (insert_item i v ds)) (slot_in t (items_len (seen_items ds)))
insert_marked v t (object ms) = Some (object (put t v ms))
insert_marked v t d = None

abbrev pub take_marked : Data → List ℕ → Data → Option Data
take_marked m = at_shown (mark_child m)

abbrev pub swap_marked : Data → List ℕ → Data → Option Data
swap_marked v = at_shown (λ s d. set_child s v d)

-- h of the container, where a child stands at the token, a mark too
abbrev pub at_child : (Segment → Data → Data) → List ℕ → Data → Option Data
at_child h t d = option_and_then (λ s. option_map (λ c. h s d) (child s d)) (segment_of d t)

-- the container with w as its child again, in place of a mark
abbrev pub restore_child : Data → Segment → Data → Data
restore_child w (key k) (object ms) = object (put k w ms)
restore_child w (place i) (array ds) = array (insert_item i w (pop_item ds))
restore_child w s d = d

-- where a token put a new element, now that there are n
abbrev pub undo_slot : List ℕ → ℕ → Option ℕ
undo_slot t zero = None
undo_slot t (suc n) = slot_in t n

-- ---- results

-- both are there, and R holds of them, or neither is there
abbrev pub Corresponds : (Data → Data → Type 0) → Option Data → Option Data → Type 0
Corresponds R None None = Unit {0}
Corresponds R (Some q) (Some e) = R q e
Corresponds R o p = ⊥

-- the elements, each of the first n as it is seen
abbrev pub clear_upto : ℕ → Items → Items
clear_upto n no_items = no_items
clear_upto zero (item d ds) = item d ds
clear_upto (suc n) (item d ds) = item (seen d) (clear_upto n ds)
