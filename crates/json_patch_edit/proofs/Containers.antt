-- One change in a container, and on the way down to it.
use Rattle.json_patch_edit.proofs.Common.{◌≡◌, Option, None, Result, rules, IsErr, IsErrAnd, Data, Attempts, PatchErrorKind}
use Rattle.json_patch_edit.proofs.Common.{InvalidPointer, StepFault, ℕ, ◌<◌, ◌≤◌, List, [], ◌∷◌, length, set, get_or, Vec}
use Rattle.json_patch_edit.proofs.Common.{vec_len, Some, option_map, option_and_then, String, Global, refl, sym, ap, ◌∙◌}
use Rattle.json_patch_edit.proofs.Common.{arith, lookup, set_value, array, object, view, items_view, members_view, Value}
use Rattle.json_patch_edit.proofs.Common.{Entry, view-lookup, get_item_within, get_item_past, place_of, Segment, key, place}
use Rattle.json_patch_edit.proofs.Common.{child, slot_in, segment_of, take_from, set_child, pointee, after_change, ◌≢◌, Bool}
use Rattle.json_patch_edit.proofs.Common.{true, false, bytes_eq, MatchResult, bytes_eq-Decides, next_is_no_place, next_token}
use Rattle.json_patch_edit.proofs.Common.{BTreeMap, Array, Object, view-Array, view-Object, Pointer, Refused, nat_tests}
use Rattle.std.specs.List.{remove}
use Rattle.jsonptr.specs.Indexes.{IsIndexText, place_in}
use Rattle.jsonptr.specs.declared.index.Index.{Index}
use Rattle.std.specs.Vec.{with_item}
use Rattle.json_patch_document.proofs.Writes.{is_named, AreInOrder, items_view-set, items_view-remove, members_view-set_value}
use Rattle.json_patch_document.proofs.Writes.{items_view-set_same, members_view-set_same}

-- ---- attempts at a change, by how they end

-- a refusal that `?` passed on
pub refused_attempt : {T : Type 0} (r : Result T StepFault) (kind : PatchErrorKind) (wanted : Option Data) (d : Data) → IsErr r × IsErrAnd r (λ f. f ≡ Refused kind) → kind ≡ InvalidPointer → wanted ≡ None → Attempts r wanted d d
refused_attempt r kind wanted d h at none = search rules

-- ---- what an edit makes of a container that holds values, and what it finds there

-- the token names the element at i, among so many
abbrev pub IsItem : List ℕ → ℕ → ℕ → Type 0
IsItem t len i = (i < len) × (place_of t ≡ Some i)

-- the token names no element among so many
abbrev pub IsNoItem : List ℕ → ℕ → Type 0
IsNoItem t len = (i : ℕ) → place_of t ≡ Some i → len ≤ i

-- ---- the child at a token

pub item_child : (t : List ℕ) (m : Vec Value Global) (len i : ℕ) (v : Value) → len ≡ vec_len m → IsItem t len i → v ≡ get_or m.items i v → child (place i) (array (items_view m.items)) ≡ Some (view v)
item_child t m len i v e at is = sym (ap (λ x. Some (view x)) is ∙ get_item_within m.items i v (omega arith))

pub member_child : (t : List ℕ) (es : List Entry) (o : Option Value) (v : Value) → o ≡ Some v → o ≡ lookup (is_named t) es → child (key t) (object (members_view es)) ≡ Some (view v)
member_child t es o v some is = sym (view-lookup t es) ∙ ap (option_map view) (sym is ∙ some)

no_item_at : (o : Option ℕ) (vs : List Value) (h : Segment → Option Data) → ((s : Segment) → child s (array (items_view vs)) ≡ None → h s ≡ None) → ((i : ℕ) → o ≡ Some i → length vs ≤ i)
    → option_and_then h (option_map place o) ≡ None
no_item_at None vs h none past = refl
no_item_at (Some i) vs h none past = none (place i) (sym (get_item_past vs i (past i refl)))

-- where the token names no element, nothing comes of what needs one
pub no_item : (t : List ℕ) (m : Vec Value Global) (len : ℕ) (h : Segment → Option Data) → ((s : Segment) → child s (array (items_view m.items)) ≡ None → h s ≡ None) → len ≡ vec_len m → IsNoItem t len
    → option_and_then h (segment_of (array (items_view m.items)) t) ≡ None
no_item t m len h none e past = no_item_at (place_of t) m.items h none (λ i is. (let over : len ≤ i = past i is in omega arith))

pub no_member : (t : List ℕ) (es : List Entry) (o : Option Value) (h : Segment → Option Data) → ((s : Segment) → child s (object (members_view es)) ≡ None → h s ≡ None) → o ≡ None → o ≡ lookup (is_named t) es
    → option_and_then h (segment_of (object (members_view es)) t) ≡ None
no_member t es o h none is got = none (key t) (sym (view-lookup t es) ∙ ap (option_map view) (sym got ∙ is))

pub takes_none : (d : Data) (f : Segment → Data → Data) (s : Segment) → child s d ≡ None → option_map (f s) (child s d) ≡ None
takes_none d f s is = ap (option_map (f s)) is

pub goes_none : (d : Data) (f : Segment → Data → Option Data) (s : Segment) → child s d ≡ None → option_and_then (f s) (child s d) ≡ None
goes_none d f s is = ap (option_and_then (f s)) is

pub found_here : (t : List ℕ) (d : Data) (s : Segment) (e : Data) → segment_of d t ≡ Some s → child s d ≡ Some e → pointee d (t ∷ []) ≡ Some e
found_here t d s e named is = rw (named, is)

pub found_item : (t : List ℕ) (m : Vec Value Global) (len i : ℕ) (v : Value) → len ≡ vec_len m → IsItem t len i → v ≡ get_or m.items i v → pointee (array (items_view m.items)) (t ∷ []) ≡ Some (view v)
found_item t m len i v e at is = found_here t (array (items_view m.items)) (place i) (view v) (ap (option_map place) at.1) (item_child t m len i v e at is)

pub found_member : (t : List ℕ) (es : List Entry) (o : Option Value) (v : Value) → o ≡ Some v → o ≡ lookup (is_named t) es → pointee (object (members_view es)) (t ∷ []) ≡ Some (view v)
found_member t es o v some is = found_here t (object (members_view es)) (key t) (view v) refl (member_child t es o v some is)

pub found_no_member : (t : List ℕ) (es : List Entry) (o : Option Value) → o ≡ None → o ≡ lookup (is_named t) es → pointee (object (members_view es)) (t ∷ []) ≡ None
found_no_member t es o none is = no_member t es o (λ s. option_and_then (λ c. Some c) (child s (object (members_view es)))) (λ s h. goes_none (object (members_view es)) (λ r c. Some c) s h) none is

-- ---- arrays

pub takes_item : (t : List ℕ) (m : Vec Value Global) (len i : ℕ) (v : Value) → len ≡ vec_len m → IsItem t len i → v ≡ get_or m.items i v → take_from t (array (items_view m.items)) ≡ Some (array (items_view (remove m.items i)))
takes_item t m len i v e at is = rw (at.1, item_child t m len i v e at is) (ap (λ ds. Some (array ds)) (sym (items_view-remove m.items i (omega arith))))

pub swaps_item : (t : List ℕ) (m : Vec Value Global) (len i : ℕ) (v w x : Value) → len ≡ vec_len m → IsItem t len i → x ≡ get_or m.items i x → w ≡ v
    → after_change (λ c. Some (view v)) (array (items_view m.items)) (t ∷ []) ≡ Some (array (items_view (set m.items i w)))
swaps_item t m len i v w x e at is same = rw (at.1, item_child t m len i x e at is, ← same) (ap (λ ds. Some (array ds)) (sym (items_view-set m.items i w)))

-- ---- the element that a token names, and where it puts a new one, by the index that is read of it

-- a refusal that `?` made of an index's
pub refused : (r : Result ℕ PatchErrorKind) (P : ℕ → Type 0) (Q : Type 0) → IsErr r × IsErrAnd r (λ kind. kind ≡ InvalidPointer) → Q → MatchResult r P (λ kind. (kind ≡ InvalidPointer) × Q)
refused r P Q h q = search rules

-- ---- elements

pub item_outside : (t : List ℕ) (index : Index) (len : ℕ) → IsIndexText t index → len ≤ place_in index len → IsNoItem t len
item_outside t index len h out = search (rules, next_is_no_place)

-- ---- slots

pub not_next : (b : Bool) (t : List ℕ) → bytes_eq t next_token ≡ b → t ≢ next_token → b ≡ false
not_next b t is other = search rules

place_is_not_next : (t : List ℕ) (i : ℕ) → place_of t ≡ Some i → t ≢ next_token
place_is_not_next t i h is = let none : place_of t ≡ None = ap place_of is ∙ next_is_no_place in cc

is_next : (t : List ℕ) → t ≡ next_token → bytes_eq t next_token ≡ true
is_next t is = (bytes_eq-Decides t next_token).1 is

pub slot_outside : (t : List ℕ) (index : Index) (len : ℕ) → IsIndexText t index → len < place_in index len → slot_in t len ≡ None
slot_outside t index len h out = search (rules, not_next, place_is_not_next)

pub slot_within : (t : List ℕ) (index : Index) (len n : ℕ) → IsIndexText t index → n ≡ place_in index len → n ≤ len → (n ≤ len) × (slot_in t len ≡ Some n)
slot_within t index len n h is le = search (rules, not_next, bytes_eq, place_is_not_next, nat_tests, is_next)

-- ---- a walk down a value: what an attempt at a child leaves of what holds the child, and what stands there

-- what comes of a change of the child at a token
abbrev pub within : (Data → Option Data) → List ℕ → Data → Option Data
within f t d = option_and_then (λ s. option_and_then (λ c. option_map (λ e. set_child s e d) (f c)) (child s d)) (segment_of d t)

-- ---- at values

pub walks_to_item : {T : Type 0} (r : Result T StepFault) (wanted : Option Data) (f : Data → Option Data) (t : List ℕ) (old new : Value) (m : Vec Value Global) (len i : ℕ) (v w : Value)
    → wanted ≡ within f t (view old) → old ≡ Array m → new ≡ Array (with_item m i w) → len ≡ vec_len m → IsItem t len i → v ≡ get_or m.items i v → Attempts r (f (view v)) (view v) (view w) → Attempts r wanted (view old) (view new)
walks_to_item r wanted f t old new m len i v w q o n e at is h = rw (q, o, n, view-Array m, view-Array (with_item m i w)) (search (rules, item_child, items_view-set, items_view-set_same))

pub walks_to_member : {T : Type 0} (r : Result T StepFault) (wanted : Option Data) (f : Data → Option Data) (t : List ℕ) (old new : Value) (m n : BTreeMap (String Global) Value) (v w : Value)
    → wanted ≡ within f t (view old) → old ≡ Object m → new ≡ Object n → AreInOrder m.entries → Some v ≡ lookup (is_named t) m.entries → n.entries ≡ set_value (is_named t) m.entries w → Attempts r (f (view v)) (view v) (view w)
    → Attempts r wanted (view old) (view new)
walks_to_member r wanted f t old new m n v w q o p order is wrote h = rw (q, o, p, view-Object m, view-Object n) (search (rules, member_child, members_view-set_value, members_view-set_same))

pub walks_to_no_item : {T : Type 0} (r : Result T StepFault) (kind : PatchErrorKind) (wanted : Option Data) (f : Data → Option Data) (t : List ℕ) (old new : Value) (m : Vec Value Global) (len : ℕ)
    → wanted ≡ within f t (view old) → old ≡ Array m → new ≡ Array m → len ≡ vec_len m → IsErr r × IsErrAnd r (λ x. x ≡ Refused kind) → kind ≡ InvalidPointer → IsNoItem t len → Attempts r wanted (view old) (view new)
walks_to_no_item r kind wanted f t old new m len q o n e gives at past = search (rules, refused_attempt, view-Array, no_item t m len, goes_none (array (items_view m.items)), no_item, goes_none)

pub walks_to_no_member : (wanted : Option Data) (f : Data → Option Data) (t : List ℕ) (old new : Value) (m n : BTreeMap (String Global) Value)
    → wanted ≡ within f t (view old) → old ≡ Object m → new ≡ Object n → None ≡ lookup (is_named t) m.entries → n ≡ m → (wanted ≡ None) × (view new ≡ view old)
walks_to_no_member wanted f t old new m n q o p none same = (rw (q, o, view-Object m) ((search (rules, no_member t m.entries None, goes_none (object (members_view m.entries)), no_member))), rw (o, p, same))

-- the next token of the way
pub next_within : (f : Data → Option Data) (d : Data) (P rest : Pointer) (t : List ℕ) → P ≡ t ∷ rest → after_change f d P ≡ within (λ c. after_change f c rest) t d
next_within f d P rest t is = rw is

-- ---- what stands there

pub found_at_item : (t : List ℕ) (P rest : Pointer) (old : Value) (m : Vec Value Global) (len i : ℕ) (v : Value) → P ≡ t ∷ rest → old ≡ Array m → len ≡ vec_len m → IsItem t len i → v ≡ get_or m.items i v → pointee (view old) P ≡ pointee (view v) rest
found_at_item t P rest old m len i v way o e at is = search (rules, view-Array, item_child)

pub found_at_member : (t : List ℕ) (P rest : Pointer) (old : Value) (m : BTreeMap (String Global) Value) (v : Value) → P ≡ t ∷ rest → old ≡ Object m → Some v ≡ lookup (is_named t) m.entries → pointee (view old) P ≡ pointee (view v) rest
found_at_member t P rest old m v way o is = search (rules, view-Object, member_child)

-- ---- where nothing stands

pub found_no_item : (t : List ℕ) (P rest : Pointer) (old : Value) (m : Vec Value Global) (len : ℕ) → P ≡ t ∷ rest → old ≡ Array m → len ≡ vec_len m → IsNoItem t len → None ≡ pointee (view old) P
found_no_item t P rest old m len way o e past = search (rules, view-Array m, no_item t m len, goes_none (array (items_view m.items)), view-Array, no_item, goes_none)
