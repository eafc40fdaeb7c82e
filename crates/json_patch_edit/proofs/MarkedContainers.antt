-- An edit of a marked container that holds values.
use Rattle.json_patch_edit.proofs.Common.{◌≡◌, ℕ, zero, suc, ◌<◌, ◌≤◌, ◌-◌, ◌+◌, ◌++◌, List, [], ◌∷◌, take, cond, not}
use Rattle.json_patch_edit.proofs.Common.{string_bytes, length, if◌then◌else◌, set, get_or, insert, Bool, true, false}
use Rattle.json_patch_edit.proofs.Common.{Option, Some, None, option_map, option_and_then, refl, sym, ap, ◌∙◌, arith, rules}
use Rattle.json_patch_edit.proofs.Common.{Data, array, object, Items, no_items, item, Members, get_item, items_len, view}
use Rattle.json_patch_edit.proofs.Common.{items_view, members_view, Value, Entry, Vec, vec_len, lookup, Global, place_of}
use Rattle.json_patch_edit.proofs.Common.{Segment, key, place, child, remove_item, insert_item, set_item, slot_in, BTreeMap}
use Rattle.json_patch_edit.proofs.Common.{String, Array, Object, view-Array, view-Object, pointee}
use Rattle.std.specs.List.{remove}
use Rattle.serde_json.specs.Data.{depth, items_depth, members_depth}
use Rattle.std.specs.Map.Calls.{RetainsPairs}
use Rattle.json_patch_edit.proofs.Containers.{no_item, takes_none, IsItem, IsNoItem, member_child, item_child, found_here}
use Rattle.json_patch_document.proofs.Writes.{is_named, items_view-set, items_view-insert, items_view-remove}
use Rattle.json_patch_edit.proofs.Marked.{get_seen_item, at_view, child_marked}
use Rattle.json_patch_edit.specs.Marked.{clear_upto, seen_members, member_unless, at_child, restore_child, undo_slot}
use Rattle.json_patch_edit.specs.Marked.{pop_item, IsMarked, is_mark, shown, item_unless, seen, seen_items, AreMarkedItems}
use Rattle.json_patch_edit.specs.Marked.{push_item, at_shown, insert_marked}

-- how many elements stand before the marks
abbrev pub live : Vec Value Global → ℕ
live m = items_len (seen_items (items_view m.items))

-- ---- elements

first_shown : (b : Bool) (d e : Data) (ds : Items) → zero < items_len (item_unless b d ds) → (if b then None else Some e) ≡ Some e
first_shown true d e ds lt = absurd (omega arith)
first_shown false d e ds lt = refl

later_within : (b : Bool) (i : ℕ) (d : Data) (ds : Items) → suc i < items_len (item_unless b d ds) → i < items_len ds
later_within true i d ds lt = absurd (omega arith)
later_within false i d ds lt = omega arith

live_shown : (i : ℕ) (ds : Items) → i < items_len (seen_items ds) → shown (get_item i ds) ≡ get_item i ds
live_shown i no_items lt = refl
live_shown zero (item d ds) lt = first_shown (is_mark d) (seen d) d (seen_items ds) lt
live_shown (suc i) (item d ds) lt = live_shown i ds (later_within (is_mark d) i (seen d) (seen_items ds) lt)

-- of the element that the token names
pub at_item_shown : (t : List ℕ) (m : Vec Value Global) (n i : ℕ) (v : Value) (h : Segment → Data → Data) → n ≡ live m → n ≤ vec_len m → IsItem t n i → v ≡ get_or m.items i v
    → at_shown h t (array (items_view m.items)) ≡ Some (h (place i) (array (items_view m.items)))
at_item_shown t m n i v h e within at is =
    let here : get_item i (items_view m.items) ≡ Some (view v) = at_view m.items i v (omega arith) is in
    rw (at.1, live_shown i (items_view m.items) (omega arith), here) refl

past_end : (i : ℕ) (ds : Items) → items_len ds ≤ i → get_item i ds ≡ None
past_end i no_items le = refl
past_end zero (item d ds) le = absurd (omega arith)
past_end (suc i) (item d ds) le = past_end i ds (omega arith)

none_before : (o : Option Data) → option_map seen o ≡ None → o ≡ None
none_before o is = search rules

no_item_at : (o : Option ℕ) (ds : Items) (h : Segment → Data → Data) → AreMarkedItems ds → ((i : ℕ) → o ≡ Some i → items_len (seen_items ds) ≤ i) → option_and_then (λ s. option_map (λ c. h s (array ds)) (shown (child s (array ds)))) (option_map place o) ≡ None
no_item_at None ds h marked past = refl
no_item_at (Some i) ds h marked past = rw (none_before (shown (get_item i ds)) (sym (get_seen_item i ds marked) ∙ past_end i (seen_items ds) (past i refl))) refl

pub no_item_shown : (t : List ℕ) (m : Vec Value Global) (n : ℕ) (h : Segment → Data → Data) → AreMarkedItems (items_view m.items) → n ≡ live m → IsNoItem t n → at_shown h t (array (items_view m.items)) ≡ None
no_item_shown t m n h marked e past = no_item_at (place_of t) (items_view m.items) h marked (λ i is. (let over : n ≤ i = past i is in omega arith))

pub view_push : (vs : List Value) (w : Value) → items_view (vs ++ w ∷ []) ≡ push_item (view w) (items_view vs)
view_push [] w = refl
view_push (v ∷ vs) w = ap (item (view v)) (view_push vs w)

pub inserts_item_shown : (t : List ℕ) (m : Vec Value Global) (n i : ℕ) (v : Value) → n ≡ live m → n ≤ vec_len m → (i ≤ n) × (slot_in t n ≡ Some i) → insert_marked (view v) t (array (items_view m.items)) ≡ Some (array (items_view (insert m.items i v)))
inserts_item_shown t m n i v e within at = ap (λ k. option_map (λ j. array (insert_item j (view v) (items_view m.items))) (slot_in t k)) (sym e) ∙ rw at.1 (ap (λ ds. Some (array ds)) (sym (items_view-insert m.items i v (omega arith))))

pub inserts_nowhere_shown : (t : List ℕ) (m : Vec Value Global) (n : ℕ) (v : Data) → n ≡ live m → slot_in t n ≡ None → insert_marked v t (array (items_view m.items)) ≡ None
inserts_nowhere_shown t m n v e none = ap (λ k. option_map (λ j. array (insert_item j v (items_view m.items))) (slot_in t k)) (sym e) ∙ rw none refl

pub found_item_shown : (t : List ℕ) (m : Vec Value Global) (n i : ℕ) (v : Value) → n ≤ vec_len m → IsItem t n i → v ≡ get_or m.items i v → pointee (array (items_view m.items)) (t ∷ []) ≡ Some (view v)
found_item_shown t m n i v within at is = found_here t (array (items_view m.items)) (place i) (view v) (ap (option_map place) at.1) (at_view m.items i v (omega arith) is)

-- ---- on the way down

pub marked_at_member : (t : List ℕ) (old : Value) (m : BTreeMap (String Global) Value) (o : Option Value) (v : Value) → IsMarked (view old) → old ≡ Object m → o ≡ lookup (is_named t) m.entries → o ≡ Some v → IsMarked (view v)
marked_at_member t old m o v h is got some = child_marked (key t) (view old) (view v) h (rw (is, view-Object m) (member_child t m.entries o v some got))

pub marked_at_item : (t : List ℕ) (old : Value) (m : Vec Value Global) (len i : ℕ) (v : Value) → IsMarked (view old) → old ≡ Array m → len ≡ vec_len m → IsItem t len i → v ≡ get_or m.items i v → IsMarked (view v)
marked_at_item t old m len i v h is e at got = child_marked (place i) (view old) (view v) h (rw (is, view-Array m) (item_child t m len i v e at got))

-- ---- what undoes an edit

item_there : (vs : List Value) (i : ℕ) → i < length vs → (c : Data) × (get_item i (items_view vs) ≡ Some c)
item_there [] i lt = absurd (omega arith)
item_there (v ∷ vs) zero lt = (view v, refl)
item_there (v ∷ vs) (suc i) lt = item_there vs i (omega arith)

pub at_item : (t : List ℕ) (m : Vec Value Global) (len i : ℕ) (h : Segment → Data → Data) → len ≡ vec_len m → IsItem t len i → at_child h t (array (items_view m.items)) ≡ Some (h (place i) (array (items_view m.items)))
at_item t m len i h e at = let there : (c : Data) × (get_item i (items_view m.items) ≡ Some c) = item_there m.items i (omega arith) in rw (at.1, there.1) refl

pub at_no_item : (t : List ℕ) (m : Vec Value Global) (len : ℕ) (h : Segment → Data → Data) → len ≡ vec_len m → IsNoItem t len → at_child h t (array (items_view m.items)) ≡ None
at_no_item t m len h e past = no_item t m len (λ s. option_map (λ c. h s (array (items_view m.items))) (child s (array (items_view m.items)))) (λ s none. takes_none (array (items_view m.items)) (λ r c. h r (array (items_view m.items))) s none) e past

pub view_pop : (vs : List Value) (n : ℕ) → suc n ≡ length vs → items_view (take n vs) ≡ pop_item (items_view vs)
view_pop [] n e = absurd (omega arith)
view_pop (v ∷ []) zero e = refl
view_pop (v ∷ []) (suc n) e = absurd (omega arith)
view_pop (v ∷ w ∷ vs) zero e = absurd (omega arith)
view_pop (v ∷ w ∷ vs) (suc n) e = ap (item (view v)) (view_pop (w ∷ vs) n (omega arith))

taken_len : (vs : List Value) (n : ℕ) → n ≤ length vs → length (take n vs) ≡ n
taken_len [] zero le = refl
taken_len [] (suc n) le = absurd (omega arith)
taken_len (v ∷ vs) zero le = refl
taken_len (v ∷ vs) (suc n) le = ap suc (taken_len vs n (omega arith))

pub restores_item : (t : List ℕ) (m : Vec Value Global) (xs new : List Value) (len i n : ℕ) (w : Value) → len ≡ vec_len m → IsItem t len i → suc n ≡ vec_len m → xs ≡ take n m.items → new ≡ insert xs i w
    → at_child (restore_child (view w)) t (array (items_view m.items)) ≡ Some (array (items_view new))
restores_item t m xs new len i n w e at less popped wrote =
    let count : length xs ≡ n = ap length popped ∙ taken_len m.items n (omega arith) in
    let le : i ≤ length xs = omega arith in
    at_item t m len i (restore_child (view w)) e at
    ∙ rw (wrote, items_view-insert xs i w le) (ap (λ ds. Some (array (insert_item i (view w) ds))) (sym (ap items_view popped ∙ view_pop m.items n (omega arith))))

pub undo_slot_is : (t : List ℕ) (n i : ℕ) → zero < n → slot_in t (n - 1) ≡ Some i → undo_slot t n ≡ Some i
undo_slot_is t zero i some is = absurd (omega arith)
undo_slot_is t (suc n) i some is = let e : suc n - 1 ≡ n = omega arith in rw e at is

pub removes_inserted : (t : List ℕ) (m : Vec Value Global) (n i : ℕ) → n ≡ live m → n ≤ vec_len m → zero < n → (i ≤ n - 1) × (slot_in t (n - 1) ≡ Some i) → option_map (λ j. array (remove_item j (items_view m.items))) (undo_slot t (live m)) ≡ Some (array (items_view (remove m.items i)))
removes_inserted t m n i e within some at =
    ap (λ k. option_map (λ j. array (remove_item j (items_view m.items))) (undo_slot t k)) (sym e) ∙ rw (undo_slot_is t n i some at.1) (ap (λ ds. Some (array ds)) (sym (items_view-remove m.items i (omega arith))))

-- ---- the marks go

pub clears_object : (old new : Value) (m n : BTreeMap (String Global) Value) → old ≡ Object m → new ≡ Object n → members_view n.entries ≡ seen_members (members_view m.entries) → view new ≡ seen (view old)
clears_object old new m n o p h = rw (o, p, view-Object m, view-Object n) (ap object h)

kept_view : (b : Bool) (k : String Global) (w v : Value) (es : List Entry) (ms : Members) → view w ≡ seen (view v) → members_view es ≡ ms → members_view (cond (not b) ((k, w) ∷ es) es) ≡ member_unless b (string_bytes k) (seen (view v)) ms
kept_view true k w v es ms is more = more
kept_view false k w v es ms is more = rw (is, more) refl

-- what `retain` leaves where it clears each member, and keeps those that are no marks
pub retained_seen : {F : Type 0} (T : F → String Global → Value → Bool → Value → F → Type 0) → ((f : F) (k : String Global) (v : Value) (b : Bool) (w : Value) (f' : F) → T f k v b w f' → (b ≡ not (is_mark (view v))) × (view w ≡ seen (view v)))
    → (f : F) (es kept : List Entry) → RetainsPairs T f es kept → members_view kept ≡ seen_members (members_view es)
retained_seen T each f [] kept h = ap members_view h
retained_seen T each f (e ∷ es) kept h =
    let told = each f e.0 e.1 h.0 h.1 h.2 h.4 in
    ap members_view h.6 ∙ ap (λ b. members_view (cond b ((e.0, h.1) ∷ h.3) h.3)) told.0 ∙ kept_view (is_mark (view e.1)) e.0 h.1 e.1 h.3 (seen_members (members_view es)) told.1 (retained_seen T each h.2 es h.3 h.5)

-- ---- the elements, cleared one by one

pub entry_depth : (before after es : List Entry) (k : String Global) (v : Value) → es ≡ before ++ (k, v) ∷ after → depth (view v) ≤ members_depth (members_view es)
entry_depth [] after es k v is = rw is (omega arith)
entry_depth (e ∷ before) after es k v is = let more : depth (view v) ≤ members_depth (members_view (before ++ (k, v) ∷ after)) = entry_depth before after (before ++ (k, v) ∷ after) k v refl in rw is (omega arith)

item_depth : (i : ℕ) (c : Data) (ds : Items) → get_item i ds ≡ Some c → depth c ≤ items_depth ds
item_depth i c no_items is = cc
item_depth zero c (item d ds) is = let e : d ≡ c = cc in rw e (omega arith)
item_depth (suc i) c (item d ds) is = let more : depth c ≤ items_depth ds = item_depth i c ds is in omega arith

get_upto : (i : ℕ) (ds : Items) → get_item i (clear_upto i ds) ≡ get_item i ds
get_upto i no_items = refl
get_upto zero (item d ds) = refl
get_upto (suc i) (item d ds) = get_upto i ds

next_upto : (i : ℕ) (c : Data) (ds : Items) → get_item i ds ≡ Some c → set_item i (seen c) (clear_upto i ds) ≡ clear_upto (suc i) ds
next_upto i c no_items is = cc
next_upto zero c (item d no_items) is = let e : c ≡ d = cc in rw e refl
next_upto zero c (item d (item e ds)) is = let e : c ≡ d = cc in rw e refl
next_upto (suc i) c (item d ds) is = ap (item (seen d)) (next_upto i c ds is)

taken_depth : (n : ℕ) (vs : List Value) → items_depth (items_view (take n vs)) ≤ items_depth (items_view vs)
taken_depth zero vs = omega arith
taken_depth (suc n) [] = omega arith
taken_depth (suc n) (v ∷ vs) = let more : items_depth (items_view (take n vs)) ≤ items_depth (items_view vs) = taken_depth n vs in omega arith

-- the element at i, which isn't cleared yet
unvisited : (i n : ℕ) (vs now : List Value) (v : Value) → items_view now ≡ clear_upto i (items_view (take n vs)) → i < length now → v ≡ get_or now i v → get_item i (items_view (take n vs)) ≡ Some (view v)
unvisited i n vs now v kept lt is = sym (get_upto i (items_view (take n vs))) ∙ ap (get_item i) (sym kept) ∙ at_view now i v lt is

pub unvisited_depth : (i n : ℕ) (vs now : List Value) (v : Value) → items_view now ≡ clear_upto i (items_view (take n vs)) → i < length now → v ≡ get_or now i v → depth (view v) ≤ items_depth (items_view vs)
unvisited_depth i n vs now v kept lt is =
    let here : depth (view v) ≤ items_depth (items_view (take n vs)) = item_depth i (view v) (items_view (take n vs)) (unvisited i n vs now v kept lt is) in omega (arith, taken_depth n vs)

pub clears_next : (i n : ℕ) (vs now : List Value) (v w : Value) → items_view now ≡ clear_upto i (items_view (take n vs)) → i < length now → v ≡ get_or now i v → view w ≡ seen (view v) → items_view (set now i w) ≡ clear_upto (i + 1) (items_view (take n vs))
clears_next i n vs now v w kept lt is cleared =
    let one : i + 1 ≡ suc i = omega arith in
    items_view-set now i w ∙ rw (cleared, kept, one) (next_upto i (view v) (items_view (take n vs)) (unvisited i n vs now v kept lt is))

cleared_at : (b : Bool) (n : ℕ) (v : Value) (vs : List Value) (ds : Items) → n ≡ items_len (item_unless b (seen (view v)) ds) → ((m : ℕ) → m ≡ items_len ds → clear_upto m (items_view (take m vs)) ≡ ds) → clear_upto n (items_view (take n (v ∷ vs))) ≡ item_unless b (seen (view v)) ds
cleared_at true n v vs ds e more = rw e refl
cleared_at false n v vs ds e more = rw e (ap (item (seen (view v))) (more (items_len ds) refl))

pub cleared_all : (n : ℕ) (vs : List Value) → n ≡ items_len (seen_items (items_view vs)) → clear_upto n (items_view (take n vs)) ≡ seen_items (items_view vs)
cleared_all n [] e = rw e refl
cleared_all n (v ∷ vs) e = cleared_at (is_mark (view v)) n v vs (seen_items (items_view vs)) e (λ m. cleared_all m vs)
