-- What a write to the `Vec` of an array or the map of an object leaves of its view.
use Rattle.json_patch_document.proofs.Common.{◌≡◌, ℕ, suc, ◌<◌, ◌≤◌, List, [], ◌∷◌, length, set, Option, Some, Bool, slice_index_or, Ordering, Less, String, Global, cond, is_eq, string_bytes, nat_cmp, refl, ap, arith, rules, slice_cmp, lookup, set_value, remove_entry, keys_of, item, Members, member, put, view, items_view, members_view, Value, Entry, members_view-insert_entry, view-lookup, IsBelowMembers, insert_item, remove_item, set_item, without, insert, AllByRecursion, insert_entry, is_at, match_ordering, string_cmp}
use Rattle.std.specs.List.{remove}
use Rattle.std.specs.List.Sorted.{IsStrictlySortedBy}
use Rattle.json_patch_document.proofs.Members.{below_absent, below_more, member_document}
use Rattle.json_patch_document.proofs.Common.{sym, ◌∙◌, IsDocument, AreMembers, get_member, option_map}

-- the test of a map's keys by which a name is looked up
abbrev pub is_named : List ℕ → String Global → Bool
is_named name = is_at (λ k. slice_cmp nat_cmp name (string_bytes k))

-- a map's keys ascend, each once
abbrev pub AreInOrder : List Entry → Type 0
AreInOrder es = IsStrictlySortedBy string_cmp (keys_of es)

-- ---- arrays

pub items_view-set : (vs : List Value) (i : ℕ) (w : Value) → items_view (set vs i w) ≡ set_item i (view w) (items_view vs)
items_view-set (v ∷ vs) (suc i) w = ap (item (view v)) (items_view-set vs i w)
items_view-set vs i w = search rules

pub items_view-insert : (vs : List Value) (i : ℕ) (v : Value) → i ≤ length vs → items_view (insert vs i v) ≡ insert_item i (view v) (items_view vs)
items_view-insert (w ∷ vs) (suc i) v h = ap (item (view w)) (items_view-insert vs i v (omega arith))
items_view-insert vs i v h = search rules

pub items_view-remove : (vs : List Value) (i : ℕ) → i < length vs → items_view (remove vs i) ≡ remove_item i (items_view vs)
items_view-remove (w ∷ vs) (suc i) h = ap (item (view w)) (items_view-remove vs i (omega arith))
items_view-remove vs i h = search rules

-- ---- maps

removes : (o : Ordering) (e : Entry) (es left : List Entry) (ms : Members) → members_view left ≡ ms
    → members_view (cond (is_eq o) es (e ∷ left)) ≡ match_ordering o (member (string_bytes e.0) (view e.1) ms) (members_view es) (member (string_bytes e.0) (view e.1) ms)
removes o e es left ms h = search rules

pub members_view-remove_entry : (name : List ℕ) (es : List Entry) → members_view (remove_entry (is_named name) es) ≡ without name (members_view es)
members_view-remove_entry name [] = refl
members_view-remove_entry name (e ∷ es) = removes (slice_cmp nat_cmp name (string_bytes e.0)) e es _ _ (members_view-remove_entry name es)

pub below : (k : String Global) (es : List Entry) → AllByRecursion (λ y. string_cmp k y ≡ Less) (keys_of es) → IsBelowMembers (string_bytes k) (members_view es)
below k [] h = tt
below k (e ∷ es) h = (h.0, below k es h.1)

-- a name below the first key is no key
no_entry : (name : List ℕ) (e : Entry) (es : List Entry) (v : Value) → AreInOrder (e ∷ es) → slice_cmp nat_cmp name (string_bytes e.0) ≡ Less → lookup (is_named name) es ≡ Some v → ⊥
unfolding IsStrictlySortedBy
no_entry name e es v order less is = search (rules, below_more name (string_bytes e.0) (members_view es) less (below e.0 es order.0), below e.0 es order.0, below_absent name (members_view es), view-lookup name es, below_more, below, below_absent, view-lookup)

rest_in_order : (e : Entry) (es : List Entry) → AreInOrder (e ∷ es) → AreInOrder es
unfolding IsStrictlySortedBy
rest_in_order e es order = order.1

pub members_view-set_value : (name : List ℕ) (es : List Entry) (w v : Value) → AreInOrder es → lookup (is_named name) es ≡ Some v → members_view (set_value (is_named name) es w) ≡ put name (view w) (members_view es)
members_view-set_value name [] w v order found = cc
members_view-set_value name (e ∷ es) w v order found = search (rules, no_entry, rest_in_order, members_view-set_value name es w v)

-- a value in place of one that looks the same changes nothing
keeps : (o : Ordering) (e : Entry) (es left : List Entry) (w v : Value) (found : Option Value) → cond (is_eq o) (Some e.1) found ≡ Some v → view w ≡ view v → (found ≡ Some v → members_view left ≡ members_view es)
    → members_view (cond (is_eq o) ((e.0, w) ∷ es) (e ∷ left)) ≡ members_view (e ∷ es)
keeps o e es left w v found is same more = search rules

pub members_view-set_same : (name : List ℕ) (es : List Entry) (w v : Value) → lookup (is_named name) es ≡ Some v → view w ≡ view v → members_view (set_value (is_named name) es w) ≡ members_view es
members_view-set_same name [] w v found same = refl
members_view-set_same name (e ∷ es) w v found same = search (rules, keeps, members_view-set_same name es w v)

pub items_view-set_same : (vs : List Value) (i : ℕ) (w v : Value) → v ≡ slice_index_or vs i v → view w ≡ view v → i < length vs → items_view (set vs i w) ≡ items_view vs
items_view-set_same (u ∷ vs) (suc i) w v is same h = ap (item (view u)) (items_view-set_same vs i w v is same (omega arith))
items_view-set_same vs i w v is same h = search rules

pub members_view_inserted : (es : List Entry) (k : String Global) (v : Value) → members_view (insert_entry string_cmp es k v) ≡ put (string_bytes k) (view v) (members_view es)
members_view_inserted = members_view-insert_entry

-- ---- what is found in a map

pub found_at : (t : List ℕ) (es : List Entry) (o : Option Value) → o ≡ lookup (is_named t) es → get_member t (members_view es) ≡ option_map view o
found_at t es o found = sym (view-lookup t es) ∙ ap (option_map view) (sym found)

pub found_document : (t : List ℕ) (es : List Entry) (d : Value) → Some d ≡ lookup (is_named t) es → AreMembers (members_view es) → IsDocument (view d)
found_document t es d found h = member_document t (view d) (members_view es) h (found_at t es (Some d) found)
