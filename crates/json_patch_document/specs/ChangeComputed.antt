-- The document that an operation leaves, computed.
use Rattle.std.specs.Prelude.{ℕ, zero, suc, List, [], ◌∷◌, Option, Some, None, option_map, option_and_then, bytes_eq}
use Rattle.std.specs.Prelude.{nat_le, if◌then◌else◌}
use Rattle.std.specs.Ordering.{nat_cmp, match_ordering}
use Rattle.std.specs.Cmp.Lexicographic.{slice_cmp}
use Rattle.serde_json.specs.Data.{Data, array, object, Items, no_items, item, Members, no_members, member, put}
use Rattle.serde_json.specs.Events.{items_len}
use Rattle.jsonptr.specs.Places.{place_of, next_token}
use Rattle.json_patch_document.specs.Document.{Segment, key, place, child}

-- the elements with v before the one at n, or last
abbrev pub insert_item : ℕ → Data → Items → Items
insert_item n v no_items = item v no_items
insert_item zero v (item d ds) = item v (item d ds)
insert_item (suc n) v (item d ds) = item d (insert_item n v ds)

abbrev pub remove_item : ℕ → Items → Items
remove_item n no_items = no_items
remove_item zero (item d ds) = ds
remove_item (suc n) (item d ds) = item d (remove_item n ds)

abbrev pub set_item : ℕ → Data → Items → Items
set_item n v no_items = no_items
set_item zero v (item d ds) = item v ds
set_item (suc n) v (item d ds) = item d (set_item n v ds)

-- the members without the one of the name k
abbrev pub without : List ℕ → Members → Members
without k no_members = no_members
without k (member l d ms) = match_ordering (slice_cmp nat_cmp k l) (member l d (without k ms)) ms (member l d (without k ms))

-- the step that a token names
abbrev pub segment_of : Data → List ℕ → Option Segment
segment_of (array ds) t = option_map place (place_of t)
segment_of (object ms) t = Some (key t)
segment_of d t = None

-- the document with v as its child
abbrev pub set_child : Segment → Data → Data → Data
set_child (key k) v (object ms) = object (put k v ms)
set_child (place i) v (array ds) = array (set_item i v ds)
set_child s v d = d

-- the document without its child
abbrev pub drop_child : Segment → Data → Data
drop_child (key k) (object ms) = object (without k ms)
drop_child (place i) (array ds) = array (remove_item i ds)
drop_child s d = d

-- the index at which a token puts a new element among n
abbrev pub slot_in : List ℕ → ℕ → Option ℕ
slot_in t n = if bytes_eq t next_token then Some n else option_and_then (λ i. if nat_le i n then Some i else None) (place_of t)

abbrev pub slot_of : List ℕ → Items → Option ℕ
slot_of t ds = slot_in t (items_len ds)

abbrev pub put_in : Data → List ℕ → Data → Option Data
put_in v t (array ds) = option_map (λ i. array (insert_item i v ds)) (slot_of t ds)
put_in v t (object ms) = Some (object (put t v ms))
put_in v t d = None

abbrev pub take_from : List ℕ → Data → Option Data
take_from t d = option_and_then (λ s. option_map (λ c. drop_child s d) (child s d)) (segment_of d t)

-- the document that stands at a pointer
abbrev pub pointee : Data → List (List ℕ) → Option Data
pointee d [] = Some d
pointee d (t ∷ P) = option_and_then (λ s. option_and_then (λ c. pointee c P) (child s d)) (segment_of d t)

-- the document after f changed what stands at a pointer
abbrev pub after_change : (Data → Option Data) → Data → List (List ℕ) → Option Data
after_change f d [] = f d
after_change f d (t ∷ P) = option_and_then (λ s. option_and_then (λ c. option_map (λ e. set_child s e d) (after_change f c P)) (child s d)) (segment_of d t)

-- a pointer that begins with t and goes on with P, split before its last token
abbrev pub front_of : List ℕ → List (List ℕ) → List (List ℕ)
front_of t [] = []
front_of t (u ∷ P) = t ∷ front_of u P

abbrev pub last_of : List ℕ → List (List ℕ) → List ℕ
last_of t [] = t
last_of t (u ∷ P) = last_of u P

abbrev pub after_add : Data → List (List ℕ) → Data → Option Data
after_add d [] v = Some v
after_add d (t ∷ P) v = after_change (put_in v (last_of t P)) d (front_of t P)

abbrev pub after_remove : Data → List (List ℕ) → Option Data
after_remove d [] = None
after_remove d (t ∷ P) = after_change (take_from (last_of t P)) d (front_of t P)

abbrev pub after_replace : Data → List (List ℕ) → Data → Option Data
after_replace d P v = after_change (λ c. Some v) d P
