-- Edits of a marked container, as they are seen.
use Rattle.json_patch_edit.proofs.Common.{◌≡◌, view, Value, items_view, length, get_or, get_item_within}
use Rattle.json_patch_edit.proofs.Common.{items_len-items_view, ◌-◌, ℕ, zero, suc, ◌<◌, ◌≤◌, List, Bool, true, false}
use Rattle.json_patch_edit.proofs.Common.{if◌then◌else◌, Option, Some, None, option_map, Ordering, Less, Equal, Greater}
use Rattle.json_patch_edit.proofs.Common.{refl, sym, ap, ◌∙◌, subst, arith, rules, slice_cmp, nat_cmp, match_ordering, Data}
use Rattle.json_patch_edit.proofs.Common.{array, object, Items, no_items, item, Members, no_members, member, put, get_member}
use Rattle.json_patch_edit.proofs.Common.{get_item, items_len, IsBelowMembers, Segment, key, place, child, segment_of}
use Rattle.json_patch_edit.proofs.Common.{set_child, drop_child, insert_item, remove_item, set_item, without, ⊎_elim}
use Rattle.json_patch_edit.proofs.Common.{cases_lt, not}
use Rattle.json_patch_document.proofs.Members.{on_order, tied, tied_same, below_more, below_absent, below_put, below_without}
use Rattle.json_patch_document.proofs.Members.{less_back}
use Rattle.std.specs.List.{AllWithin}
use Rattle.std.specs.List.Sorted.{IsPartitionPoint, IsPartitionedBy}
use Rattle.json_patch_edit.specs.Marked.{is_mark, shown, member_unless, item_unless, seen, seen_items, seen_members}
use Rattle.json_patch_edit.specs.Marked.{AreMarks, IsMarked, AreMarkedItems, AreMarkedMembers, push_item, pop_item}
use Rattle.json_patch_edit.specs.Marked.{mark_child}

-- ---- members

pub below_unless : (b : Bool) (q k : List ℕ) (d : Data) (ms : Members) → slice_cmp nat_cmp q k ≡ Less → IsBelowMembers q ms → IsBelowMembers q (member_unless b k d ms)
below_unless true q k d ms is h = h
below_unless false q k d ms is h = (is, h)

pub below_seen : (k : List ℕ) (ms : Members) → IsBelowMembers k ms → IsBelowMembers k (seen_members ms)
below_seen k no_members h = tt
below_seen k (member l d ms) h = below_unless (is_mark d) k l (seen d) (seen_members ms) h.0 (below_seen k ms h.1)

-- the members with d at k, or with none at k
abbrev put_unless : Bool → List ℕ → Data → Members → Members
put_unless true k d ms = without k ms
put_unless false k d ms = put k d ms

put_first : (b : Bool) (k : List ℕ) (d : Data) (ms : Members) → IsBelowMembers k ms → put_unless b k d ms ≡ member_unless b k d ms
put_first true k d no_members h = refl
put_first false k d no_members h = refl
put_first true k d (member l e ms) h = rw (h.0, put_first true k d ms h.1)
put_first false k d (member l e ms) h = rw h.0

seen_put_at : (o : Ordering) (b a : Bool) (k l : List ℕ) (v d : Data) (ms new : Members) → slice_cmp nat_cmp k l ≡ o → IsBelowMembers l ms → new ≡ put_unless b k v ms
    → match_ordering o (member_unless b k v (member_unless a l d ms)) (member_unless b l v ms) (member_unless a l d new) ≡ put_unless b k v (member_unless a l d ms)
seen_put_at Less b a k l v d ms new is h more = sym (put_first b k v (member_unless a l d ms) (below_unless a k l d ms is (below_more k l ms is h)))
seen_put_at Equal b true k l v d ms new is h more = let e : k ≡ l = tied_same k l is in rw e (sym (put_first b l v ms h))
seen_put_at Equal true false k l v d ms new is h more = rw is refl
seen_put_at Equal false false k l v d ms new is h more = rw is refl
seen_put_at Greater b true k l v d ms new is h more = more
seen_put_at Greater true false k l v d ms new is h more = rw (is, more) refl
seen_put_at Greater false false k l v d ms new is h more = rw (is, more) refl

seen_ordered : (o : Ordering) (a b c : Members) → seen_members (match_ordering o a b c) ≡ match_ordering o (seen_members a) (seen_members b) (seen_members c)
seen_ordered o a b c = search rules

-- a mark that is put leaves none, and a value leaves what is seen of it
pub seen_put : (k : List ℕ) (v : Data) (ms : Members) → AreMarkedMembers ms → seen_members (put k v ms) ≡ put_unless (is_mark v) k (seen v) (seen_members ms)
seen_put k v no_members h = sym (put_first (is_mark v) k (seen v) no_members tt)
seen_put k v (member l d ms) h =
    seen_ordered (slice_cmp nat_cmp k l) (member k v (member l d ms)) (member l v ms) (member l d (put k v ms))
    ∙ seen_put_at (slice_cmp nat_cmp k l) (is_mark v) (is_mark d) k l (seen v) (seen d) (seen_members ms) (seen_members (put k v ms)) refl (below_seen l ms h.0) (seen_put k v ms h.2)

seen_without_at : (o : Ordering) (a : Bool) (k l : List ℕ) (d : Data) (ms new : Members) → slice_cmp nat_cmp k l ≡ o → IsBelowMembers l ms → new ≡ without k ms
    → match_ordering o (member_unless a l d new) ms (member_unless a l d new) ≡ without k (member_unless a l d ms)
seen_without_at Equal true k l d ms new is h more = let e : k ≡ l = tied_same k l is in rw e (sym (put_first true l d ms h))
seen_without_at Equal false k l d ms new is h more = rw is refl
seen_without_at o true k l d ms new is h more = more
seen_without_at o false k l d ms new is h more = rw (is, more) refl

pub seen_without : (k : List ℕ) (ms : Members) → AreMarkedMembers ms → seen_members (without k ms) ≡ without k (seen_members ms)
seen_without k no_members h = refl
seen_without k (member l d ms) h =
    seen_ordered (slice_cmp nat_cmp k l) (member l d (without k ms)) ms (member l d (without k ms))
    ∙ seen_without_at (slice_cmp nat_cmp k l) (is_mark d) k l (seen d) (seen_members ms) (seen_members (without k ms)) refl (below_seen l ms h.0) (seen_without k ms h.2)

get_seen_at : (o : Ordering) (a : Bool) (k l : List ℕ) (d : Data) (ms : Members) (found : Option Data) → slice_cmp nat_cmp k l ≡ o → is_mark d ≡ a → IsBelowMembers l ms → get_member k ms ≡ option_map seen (shown found)
    → get_member k (member_unless a l (seen d) ms) ≡ option_map seen (shown (match_ordering o found (Some d) found))
get_seen_at Equal true k l d ms found is at h more = let e : k ≡ l = tied_same k l is in rw (at, e) (below_absent l ms h)
get_seen_at o true k l d ms found is at h more = more
get_seen_at Equal false k l d ms found is at h more = rw (is, at) refl
get_seen_at o false k l d ms found is at h more = rw is more

pub get_seen : (k : List ℕ) (ms : Members) → AreMarkedMembers ms → get_member k (seen_members ms) ≡ option_map seen (shown (get_member k ms))
get_seen k no_members h = refl
get_seen k (member l d ms) h = get_seen_at (slice_cmp nat_cmp k l) (is_mark d) k l d (seen_members ms) (get_member k ms) refl refl (below_seen l ms h.0) (get_seen k ms h.2)

pub put_marked : (k : List ℕ) (c : Data) (ms : Members) → AreMarkedMembers ms → IsMarked c → AreMarkedMembers (put k c ms)
put_marked k c no_members h hc = (tt, hc, tt)
put_marked k c (member l d ms) h hc = search (rules, on_order, below_more, below_put, less_back, put_marked k c ms)

pub without_marked : (k : List ℕ) (ms : Members) → AreMarkedMembers ms → AreMarkedMembers (without k ms)
without_marked k no_members h = tt
without_marked k (member l d ms) h = search (rules, on_order, below_without, without_marked k ms)

pub get_marked : (k : List ℕ) (c : Data) (ms : Members) → AreMarkedMembers ms → get_member k ms ≡ Some c → IsMarked c
get_marked k c no_members h is = cc
get_marked k c (member l d ms) h is = search (rules, get_marked k c ms)

put_back_at : (o : Ordering) (k l : List ℕ) (v c d : Data) (ms : Members) → slice_cmp nat_cmp k l ≡ o → IsBelowMembers l ms → match_ordering o (get_member k ms) (Some d) (get_member k ms) ≡ Some c → (get_member k ms ≡ Some c → put k c (put k v ms) ≡ ms)
    → put k c (match_ordering o (member k v (member l d ms)) (member l v ms) (member l d (put k v ms))) ≡ member l d ms
put_back_at Less k l v c d ms is h found more = let none : get_member k ms ≡ None = below_absent k ms (below_more k l ms is h) in cc
put_back_at Equal k l v c d ms is h found more = let e : c ≡ d = cc in rw (is, e) refl
put_back_at Greater k l v c d ms is h found more = rw is (ap (member l d) (more found))

-- what was put at a name is undone by what stood there
pub put_back : (k : List ℕ) (v c : Data) (ms : Members) → AreMarkedMembers ms → get_member k ms ≡ Some c → put k c (put k v ms) ≡ ms
put_back k v c no_members h is = cc
put_back k v c (member l d ms) h is = put_back_at (slice_cmp nat_cmp k l) k l v c d ms refl h.0 is (put_back k v c ms h.2)

without_put_at : (o : Ordering) (k l : List ℕ) (v d : Data) (ms : Members) → slice_cmp nat_cmp k l ≡ o → match_ordering o (get_member k ms) (Some d) (get_member k ms) ≡ None → (get_member k ms ≡ None → without k (put k v ms) ≡ ms)
    → without k (match_ordering o (member k v (member l d ms)) (member l v ms) (member l d (put k v ms))) ≡ member l d ms
without_put_at Less k l v d ms is none more = rw tied refl
without_put_at Equal k l v d ms is none more = cc
without_put_at Greater k l v d ms is none more = rw is (ap (member l d) (more none))

pub without_put : (k : List ℕ) (v : Data) (ms : Members) → get_member k ms ≡ None → without k (put k v ms) ≡ ms
without_put k v no_members is = rw tied refl
without_put k v (member l d ms) is = without_put_at (slice_cmp nat_cmp k l) k l v d ms refl is (without_put k v ms)

-- ---- elements

seen_insert_at : (a : Bool) (i : ℕ) (v d : Data) (ds new : Items) → suc i ≤ items_len (item_unless a d ds) → (i ≤ items_len ds → new ≡ insert_item i v ds) → item_unless a d new ≡ insert_item (suc i) v (item_unless a d ds)
seen_insert_at true i v d ds new le more = absurd (omega arith)
seen_insert_at false i v d ds new le more = ap (item d) (more (omega arith))

insert_first : (v : Data) (ds : Items) → item v ds ≡ insert_item zero v ds
insert_first v no_items = refl
insert_first v (item d ds) = refl

pub seen_insert : (i : ℕ) (v : Data) (ds : Items) → is_mark v ≡ false → i ≤ items_len (seen_items ds) → seen_items (insert_item i v ds) ≡ insert_item i (seen v) (seen_items ds)
seen_insert zero v no_items at le = rw at refl
seen_insert (suc i) v no_items at le = absurd (omega arith)
seen_insert zero v (item d ds) at le = rw at (insert_first (seen v) (seen_items (item d ds)))
seen_insert (suc i) v (item d ds) at le = seen_insert_at (is_mark d) i (seen v) (seen d) (seen_items ds) (seen_items (insert_item i v ds)) le (seen_insert i v ds at)

shown_if : (b : Bool) (d c : Data) → (if b then None else Some d) ≡ Some c → (b ≡ false) × (d ≡ c)
shown_if b d c is = search rules

pub shown_some : (o : Option Data) (c : Data) → shown o ≡ Some c → (o ≡ Some c) × (is_mark c ≡ false)
shown_some None c is = cc
shown_some (Some d) c is = let h = shown_if (is_mark d) d c is in (ap Some h.1, sym (ap is_mark h.1) ∙ h.0)

set_unless : (b : Bool) (i : ℕ) (v d : Data) (ds : Items) → item_unless b d (set_item i v ds) ≡ set_item (suc i) v (item_unless b d ds)
set_unless b i v d ds = search rules

remove_unless : (b : Bool) (i : ℕ) (d : Data) (ds : Items) → item_unless b d (remove_item i ds) ≡ remove_item (suc i) (item_unless b d ds)
remove_unless b i d ds = search rules

pub seen_set : (i : ℕ) (v c : Data) (ds : Items) → is_mark v ≡ false → shown (get_item i ds) ≡ Some c → seen_items (set_item i v ds) ≡ set_item i (seen v) (seen_items ds)
seen_set i v c no_items at is = refl
seen_set zero v c (item d ds) at is = rw (at, (shown_if (is_mark d) d c is).0) refl
seen_set (suc i) v c (item d ds) at is = ap (item_unless (is_mark d) (seen d)) (seen_set i v c ds at is) ∙ set_unless (is_mark d) i (seen v) (seen d) (seen_items ds)

pub seen_remove : (i : ℕ) (c : Data) (ds : Items) → shown (get_item i ds) ≡ Some c → seen_items (remove_item i ds) ≡ remove_item i (seen_items ds)
seen_remove i c no_items is = refl
seen_remove zero c (item d ds) is = rw (shown_if (is_mark d) d c is).0 refl
seen_remove (suc i) c (item d ds) is = ap (item_unless (is_mark d) (seen d)) (seen_remove i c ds is) ∙ remove_unless (is_mark d) i (seen d) (seen_items ds)

pub seen_push : (m : Data) (ds : Items) → is_mark m ≡ true → seen_items (push_item m ds) ≡ seen_items ds
seen_push m no_items at = rw at refl
seen_push m (item d ds) at = ap (item_unless (is_mark d) (seen d)) (seen_push m ds at)

pub pop_push : (m : Data) (ds : Items) → pop_item (push_item m ds) ≡ ds
pop_push m no_items = refl
pop_push m (item d no_items) = refl
pop_push m (item d (item e ds)) = ap (item d) (pop_push m (item e ds))

get_mark : (i : ℕ) (ds : Items) → AreMarks ds → None ≡ shown (get_item i ds)
get_mark i no_items h = refl
get_mark zero (item d ds) h = rw h.0 refl
get_mark (suc i) (item d ds) h = get_mark i ds h.1

get_first : (b : Bool) (d : Data) (ds : Items) → get_item zero (item_unless b (seen d) ds) ≡ option_map seen (if b then None else Some d)
get_first b d ds = search rules

get_later : (b : Bool) (i : ℕ) (d : Data) (ds : Items) (found : Option Data) → (b ≡ true → None ≡ shown found) → get_item i ds ≡ option_map seen (shown found) → get_item (suc i) (item_unless b d ds) ≡ option_map seen (shown found)
get_later true i d ds found marks more = ap (option_map seen) (marks refl)
get_later false i d ds found marks more = more

pub get_seen_item : (i : ℕ) (ds : Items) → AreMarkedItems ds → get_item i (seen_items ds) ≡ option_map seen (shown (get_item i ds))
get_seen_item i no_items h = refl
get_seen_item zero (item d ds) h = get_first (is_mark d) d (seen_items ds)
get_seen_item (suc i) (item d ds) h = get_later (is_mark d) i (seen d) (seen_items ds) (get_item i ds) (λ so. get_mark i ds (h.1 so)) (get_seen_item i ds h.2)

within_unless : (b : Bool) (i : ℕ) (d : Data) (ds : Items) → suc i ≤ items_len (item_unless b d ds) → (b ≡ false) × (i ≤ items_len ds)
within_unless true i d ds le = absurd (omega arith)
within_unless false i d ds le = (refl, omega arith)

no_mark : {T : Type 0} (v : Data) → is_mark v ≡ false → is_mark v ≡ true → T
no_mark v at so = cc

pub insert_items_marked : (i : ℕ) (v : Data) (ds : Items) → AreMarkedItems ds → IsMarked v → is_mark v ≡ false → i ≤ items_len (seen_items ds) → AreMarkedItems (insert_item i v ds)
insert_items_marked i v no_items h hv at le = (hv, λ so. tt, tt)
insert_items_marked zero v (item d ds) h hv at le = (hv, no_mark v at, h)
insert_items_marked (suc i) v (item d ds) h hv at le =
    let w = within_unless (is_mark d) i (seen d) (seen_items ds) le in (h.0, no_mark d w.0, insert_items_marked i v ds h.2 hv at w.1)

no_item_marked : {T : Type 0} (i : ℕ) (c : Data) (ds : Items) → AreMarks ds → shown (get_item i ds) ≡ Some c → T
no_item_marked i c ds marks is = let none : None ≡ shown (get_item i ds) = get_mark i ds marks in cc

pub set_items_marked : (i : ℕ) (v c : Data) (ds : Items) → AreMarkedItems ds → IsMarked v → is_mark v ≡ false → shown (get_item i ds) ≡ Some c → AreMarkedItems (set_item i v ds)
set_items_marked i v c no_items h hv at is = tt
set_items_marked zero v c (item d ds) h hv at is = (hv, no_mark v at, h.2)
set_items_marked (suc i) v c (item d ds) h hv at is = (h.0, λ so. no_item_marked i c ds (h.1 so) is, set_items_marked i v c ds h.2 hv at is)

marks_removed : (i : ℕ) (ds : Items) → AreMarks ds → AreMarks (remove_item i ds)
marks_removed i no_items h = tt
marks_removed zero (item d ds) h = h.1
marks_removed (suc i) (item d ds) h = (h.0, marks_removed i ds h.1)

pub remove_items_marked : (i : ℕ) (ds : Items) → AreMarkedItems ds → AreMarkedItems (remove_item i ds)
remove_items_marked i no_items h = tt
remove_items_marked zero (item d ds) h = h.2
remove_items_marked (suc i) (item d ds) h = (h.0, λ so. marks_removed i ds (h.1 so), remove_items_marked i ds h.2)

marks_pushed : (m : Data) (ds : Items) → AreMarks ds → is_mark m ≡ true → AreMarks (push_item m ds)
marks_pushed m no_items h at = (at, tt)
marks_pushed m (item d ds) h at = (h.0, marks_pushed m ds h.1 at)

pub push_items_marked : (m : Data) (ds : Items) → AreMarkedItems ds → IsMarked m → is_mark m ≡ true → AreMarkedItems (push_item m ds)
push_items_marked m no_items h hm at = (hm, λ so. tt, tt)
push_items_marked m (item d ds) h hm at = (h.0, λ so. marks_pushed m ds (h.1 so) at, push_items_marked m ds h.2 hm at)

marks_popped : (ds : Items) → AreMarks ds → AreMarks (pop_item ds)
marks_popped no_items h = tt
marks_popped (item d no_items) h = tt
marks_popped (item d (item e ds)) h = (h.0, marks_popped (item e ds) h.1)

pub pop_items_marked : (ds : Items) → AreMarkedItems ds → AreMarkedItems (pop_item ds)
pop_items_marked no_items h = tt
pop_items_marked (item d no_items) h = tt
pop_items_marked (item d (item e ds)) h = (h.0, λ so. marks_popped (item e ds) (h.1 so), pop_items_marked (item e ds) h.2)

pub get_marked_item : (i : ℕ) (c : Data) (ds : Items) → AreMarkedItems ds → get_item i ds ≡ Some c → IsMarked c
get_marked_item i c no_items h is = cc
get_marked_item zero c (item d ds) h is = let e : d ≡ c = cc in subst IsMarked e h.0
get_marked_item (suc i) c (item d ds) h is = get_marked_item i c ds h.2 is

-- ---- a container: its child at a step, and an edit there

pub child_seen : (s : Segment) (p : Data) → IsMarked p → child s (seen p) ≡ option_map seen (shown (child s p))
child_seen s p h = search (rules, get_seen, get_seen_item)

pub child_marked : (s : Segment) (p c : Data) → IsMarked p → child s p ≡ Some c → IsMarked c
child_marked s p c h is = search (rules, get_marked, get_marked_item)

pub segment_seen : (p : Data) (t : List ℕ) → segment_of (seen p) t ≡ segment_of p t
segment_seen p t = search rules

pub set_seen : (s : Segment) (v p c : Data) → IsMarked p → is_mark v ≡ false → shown (child s p) ≡ Some c → seen (set_child s v p) ≡ set_child s (seen v) (seen p)
set_seen (key k) v (object ms) c h at is = rw (seen_put k v ms h, at) refl
set_seen (place i) v (array ds) c h at is = ap array (seen_set i v c ds at is)
set_seen s v p c h at is = search rules

pub set_marked : (s : Segment) (v p c : Data) → IsMarked p → IsMarked v → is_mark v ≡ false → shown (child s p) ≡ Some c → IsMarked (set_child s v p)
set_marked s v p c h hv at is = search (rules, put_marked, set_items_marked)

pub mark_seen : (s : Segment) (m p c : Data) → IsMarked p → is_mark m ≡ true → shown (child s p) ≡ Some c → seen (mark_child m s p) ≡ drop_child s (seen p)
mark_seen (key k) m (object ms) c h at is = rw (seen_put k m ms h, at) refl
mark_seen (place i) m (array ds) c h at is = ap array (seen_push m (remove_item i ds) at ∙ seen_remove i c ds is)
mark_seen s m p c h at is = search rules

pub mark_marked : (s : Segment) (m p : Data) → IsMarked p → IsMarked m → is_mark m ≡ true → IsMarked (mark_child m s p)
mark_marked s m p h hm at = search (rules, put_marked, remove_items_marked, push_items_marked)

pub drop_seen : (s : Segment) (p c : Data) → IsMarked p → shown (child s p) ≡ Some c → seen (drop_child s p) ≡ drop_child s (seen p)
drop_seen (key k) (object ms) c h is = ap object (seen_without k ms h)
drop_seen (place i) (array ds) c h is = ap array (seen_remove i c ds is)
drop_seen s p c h is = search rules

pub drop_marked : (s : Segment) (p : Data) → IsMarked p → IsMarked (drop_child s p)
drop_marked s p h = search (rules, without_marked, remove_items_marked)

-- ---- what is seen, looked at again

pub mark_of_seen : (d : Data) → is_mark (seen d) ≡ is_mark d
mark_of_seen d = search rules

again_item : (b : Bool) (d e : Data) (ds es : Items) → is_mark d ≡ b → seen d ≡ e → seen_items ds ≡ es → seen_items (item_unless b d ds) ≡ item_unless b e es
again_item true d e ds es at is more = refl
again_item false d e ds es at is more = rw (at, is, more) refl

again_member : (b : Bool) (k : List ℕ) (d e : Data) (ms ns : Members) → is_mark d ≡ b → seen d ≡ e → seen_members ms ≡ ns → seen_members (member_unless b k d ms) ≡ member_unless b k e ns
again_member true k d e ms ns at is more = more
again_member false k d e ms ns at is more = rw (at, is, more) refl

mutual
  pub seen_again : (d : Data) → seen (seen d) ≡ seen d
  seen_again (array ds) = ap array (items_again ds)
  seen_again (object ms) = ap object (members_again ms)
  seen_again d = refl

  items_again : (ds : Items) → seen_items (seen_items ds) ≡ seen_items ds
  items_again no_items = refl
  items_again (item d ds) = again_item (is_mark d) (seen d) (seen d) (seen_items ds) (seen_items ds) (mark_of_seen d) (seen_again d) (items_again ds)

  members_again : (ms : Members) → seen_members (seen_members ms) ≡ seen_members ms
  members_again no_members = refl
  members_again (member k d ms) = again_member (is_mark d) k (seen d) (seen d) (seen_members ms) (seen_members ms) (mark_of_seen d) (seen_again d) (members_again ms)

item_marked : (b : Bool) (d : Data) (ds : Items) → is_mark d ≡ b → IsMarked d → AreMarkedItems ds → AreMarkedItems (item_unless b d ds)
item_marked true d ds at h more = tt
item_marked false d ds at h more = (h, no_mark d at, more)

member_marked : (b : Bool) (k : List ℕ) (d : Data) (ms : Members) → IsBelowMembers k ms → IsMarked d → AreMarkedMembers ms → AreMarkedMembers (member_unless b k d ms)
member_marked true k d ms below h more = more
member_marked false k d ms below h more = (below, h, more)

mutual
  pub seen_marked : (d : Data) → IsMarked d → IsMarked (seen d)
  seen_marked (array ds) h = items_seen_marked ds h
  seen_marked (object ms) h = members_seen_marked ms h
  seen_marked d h = tt

  items_seen_marked : (ds : Items) → AreMarkedItems ds → AreMarkedItems (seen_items ds)
  items_seen_marked no_items h = tt
  items_seen_marked (item d ds) h = item_marked (is_mark d) (seen d) (seen_items ds) (mark_of_seen d) (seen_marked d h.0) (items_seen_marked ds h.2)

  members_seen_marked : (ms : Members) → AreMarkedMembers ms → AreMarkedMembers (seen_members ms)
  members_seen_marked no_members h = tt
  members_seen_marked (member k d ms) h = member_marked (is_mark d) k (seen d) (seen_members ms) (below_seen k ms h.0) (seen_marked d h.1) (members_seen_marked ms h.2)

-- ---- how many elements stand before the marks

live_to_at : (b : Bool) (j : ℕ) (d : Data) (ds : Items) → items_len ds ≤ j → items_len (item_unless b d ds) ≤ suc j
live_to_at b j d ds le = search rules

-- no further than to a mark
pub live_to : (j : ℕ) (c : Data) (ds : Items) → get_item j ds ≡ Some c → is_mark c ≡ true → items_len (seen_items ds) ≤ j
live_to j c no_items is at = cc
live_to zero c (item d ds) is at = let e : d ≡ c = cc in rw (e, at) (omega arith)
live_to (suc j) c (item d ds) is at = live_to_at (is_mark d) j (seen d) (seen_items ds) (live_to j c ds is at)

not_true : (b : Bool) → not b ≡ true → b ≡ false
not_true b is = search rules

not_false : (b : Bool) → not b ≡ false → b ≡ true
not_false b is = search rules

stands_within : (j : ℕ) (c : Data) (ds : Items) → get_item j ds ≡ Some c → j < items_len ds
stands_within j c no_items is = cc
stands_within zero c (item d ds) is = omega arith
stands_within (suc j) c (item d ds) is = let h : j < items_len ds = stands_within j c ds is in omega arith

-- as far as each element that is no mark
pub live_past : (j : ℕ) (c : Data) (ds : Items) → AreMarkedItems ds → get_item j ds ≡ Some c → is_mark c ≡ false → j < items_len (seen_items ds)
live_past j c ds h is at = stands_within j (seen c) (seen_items ds) (get_seen_item j ds h ∙ rw (is, at) refl)

pub at_view : (vs : List Value) (j : ℕ) (v : Value) → j < length vs → v ≡ get_or vs j v → get_item j (items_view vs) ≡ Some (view v)
at_view vs j v lt is = sym (ap (λ x. Some (view x)) is ∙ get_item_within vs j v lt)

live_most : (b : Bool) (d : Data) (ds : Items) (n : ℕ) → items_len ds ≤ n → items_len (item_unless b d ds) ≤ suc n
live_most b d ds n le = search rules

-- no more than there are elements
pub live_within : (ds : Items) → items_len (seen_items ds) ≤ items_len ds
live_within no_items = search rules
live_within (item d ds) = live_most (is_mark d) (seen d) (seen_items ds) (items_len ds) (live_within ds)

pub live_within_view : (vs : List Value) → items_len (seen_items (items_view vs)) ≤ length vs
live_within_view vs = let e : items_len (items_view vs) ≡ length vs = items_len-items_view vs in omega (arith, live_within (items_view vs))

-- where the last element is no mark, all are seen
pub live_whole : (vs ws : List Value) (v : Value) → AreMarkedItems (items_view vs) → ws ≡ vs → zero < length ws → v ≡ get_or ws (length ws - 1) v → is_mark (view v) ≡ false → length vs ≡ items_len (seen_items (items_view vs))
live_whole vs ws v h same some is at =
    let n : length ws ≡ length vs = ap length same in
    let stands = ap (λ xs. get_item (length ws - 1) (items_view xs)) (sym same) ∙ at_view ws (length ws - 1) v (omega arith) is in
    let past : length ws - 1 < items_len (seen_items (items_view vs)) = live_past (length ws - 1) (view v) (items_view vs) h stands at in
    let most = live_within_view vs in omega arith

by_mark : {T : Type 0} (b : Bool) → (b ≡ true → T) → (b ≡ false → T) → T
by_mark true mark value = mark refl
by_mark false mark value = value refl

-- no value stands after a mark
pub marks_last : (vs : List Value) → AreMarkedItems (items_view vs) → IsPartitionedBy (λ v. not (is_mark (view v))) vs
marks_last vs h i j v le lt value =
    let past : j < items_len (seen_items (items_view vs)) = live_past j (view (get_or vs j v)) (items_view vs) h (sym (get_item_within vs j v lt)) (not_true _ value) in
    by_mark (is_mark (view (get_or vs i v)))
    (λ at. (let to : items_len (seen_items (items_view vs)) ≤ i = live_to i (view (get_or vs i v)) (items_view vs) (sym (get_item_within vs i v (omega arith))) at in absurd (omega arith)))
    (λ at. ap not at)

live_from : (vs : List Value) (n : ℕ) (v : Value) → AreMarkedItems (items_view vs) → n ≤ length vs → AllWithin (λ w. not (is_mark (view w)) ≡ true) vs 0 n → n ≤ items_len (seen_items (items_view vs))
live_from vs zero v h le values = omega arith
live_from vs (suc n) v h le values =
    let past : n < items_len (seen_items (items_view vs)) = live_past n (view (get_or vs n v)) (items_view vs) h (sym (get_item_within vs n v (omega arith))) (not_true _ (values n v (omega arith) (omega arith))) in omega arith

live_upto : (vs : List Value) (n : ℕ) (v : Value) → n ≤ length vs → AllWithin (λ w. not (is_mark (view w)) ≡ false) vs n (length vs) → items_len (seen_items (items_view vs)) ≤ n
live_upto vs n v le marks =
    ⊎_elim
    (λ (lt : n < length vs). live_to n (view (get_or vs n v)) (items_view vs) (sym (get_item_within vs n v lt)) (not_false _ (marks n v (omega arith) lt)))
    (λ (all : length vs ≤ n). (let most = live_within_view vs in omega arith))
    (cases_lt n (length vs))

-- as many are seen as stand before the first mark
pub live_point : (vs : List Value) (n : ℕ) (v : Value) → AreMarkedItems (items_view vs) → n ≤ length vs → IsPartitionPoint (λ w. not (is_mark (view w)) ≡ true) (λ w. not (is_mark (view w)) ≡ false) vs n → n ≡ items_len (seen_items (items_view vs))
live_point vs n v h le point =
    let from = live_from vs n v h le point.0 in
    let to = live_upto vs n v le point.1 in omega arith
