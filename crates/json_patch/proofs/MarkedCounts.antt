-- How many marks there are.
use Rattle.json_patch.proofs.Common.{◌≡◌, ◌+◌, ℕ, zero, suc, Bool, true, false, List, [], ◌∷◌, Option, Some, None}
use Rattle.json_patch.proofs.Common.{option_and_then, option_and_then_some, Ordering, Less, Equal, Greater}
use Rattle.json_patch.proofs.Common.{match_ordering, slice_cmp, nat_cmp, refl, sym, ap, ◌∙◌, subst, arith, rules, Data}
use Rattle.json_patch.proofs.Common.{number, array, object, Items, no_items, item, Members, no_members, member, put}
use Rattle.json_patch.proofs.Common.{without, get_member, get_item, items_len, Segment, key, place, child, segment_of}
use Rattle.json_patch.proofs.Common.{set_child, drop_child, insert_item, remove_item, set_item, slot_in, after_change}
use Rattle.json_patch.proofs.Common.{pointee, Pointer, IsBelowMembers, front_of, last_of}
use Rattle.json_patch_edit.specs.declared.edits.Edit.{Edit}
use Rattle.json_patch_edit.specs.declared.edits.Edit.TheVariants.{Insert, Take, Remove, Swap, Clear, Sweep}
use Rattle.json_patch_edit.specs.declared.edits.Found.{Found}
use Rattle.json_patch_edit.specs.declared.edits.Found.TheVariants.{Nothing, Former, Taken}
use Rattle.json_patch_edit.proofs.Locations.{option_map_some, split_whole}
use Rattle.json_patch_document.proofs.Members.{below_absent, below_more}
use Rattle.json_patch_edit.proofs.Marked.{child_marked, shown_some}
use Rattle.json_patch_edit.proofs.MarkedChanges.{shown_there, stands_at, none_at}
use Rattle.json_patch.proofs.MarkedUnseen.{if_marked, push_last, sweeps_there}
use Rattle.json_patch_edit.proofs.Locations.{found_append}
use Rattle.json_patch_edit.specs.Marked.{is_mark, item_unless, member_unless, seen, seen_items, seen_members, IsMarked}
use Rattle.json_patch_edit.specs.Marked.{AreMarkedMembers, push_item, pop_item, mark_child}
use Rattle.json_patch_edit.specs.MarkedComputed.{marks, marks_items, marks_members}
use Rattle.json_patch_edit.specs.Exchange.{made, made_where, Finds, FindsWhere, clear_in, last_item, sweep_in, sweep_child}
use Rattle.json_patch_edit.specs.SeenEdits.{Suits, put_marks, found_marks}

-- ---- in a container

module _ (k l : List ℕ) (b c d : Data) (ms : Members) where
  put_counts_at : (o : Ordering) → slice_cmp nat_cmp k l ≡ o → IsBelowMembers l ms → match_ordering o (get_member k ms) (Some d) (get_member k ms) ≡ Some c → (get_member k ms ≡ Some c → marks_members (put k b ms) + marks c ≡ marks_members ms + marks b)
      → marks_members (match_ordering o (member k b (member l d ms)) (member l b ms) (member l d (put k b ms))) + marks c ≡ marks d + marks_members ms + marks b
  put_counts_at Less is h found more = let none : get_member k ms ≡ None = below_absent k ms (below_more k l ms is h) in cc
  put_counts_at Equal is h found more = let e : c ≡ d = cc in rw e (omega arith)
  put_counts_at Greater is h found more = let more : marks_members (put k b ms) + marks c ≡ marks_members ms + marks b = more found in omega arith

  new_counts_at : (o : Ordering) → match_ordering o (get_member k ms) (Some d) (get_member k ms) ≡ None → (get_member k ms ≡ None → marks_members (put k b ms) ≡ marks b + marks_members ms)
      → marks_members (match_ordering o (member k b (member l d ms)) (member l b ms) (member l d (put k b ms))) ≡ marks b + (marks d + marks_members ms)
  new_counts_at Less none more = refl
  new_counts_at Equal none more = cc
  new_counts_at Greater none more = let more : marks_members (put k b ms) ≡ marks b + marks_members ms = more none in omega arith

  without_counts_at : (o : Ordering) → match_ordering o (get_member k ms) (Some d) (get_member k ms) ≡ Some c → (get_member k ms ≡ Some c → marks_members (without k ms) + marks c ≡ marks_members ms)
      → marks_members (match_ordering o (member l d (without k ms)) ms (member l d (without k ms))) + marks c ≡ marks d + marks_members ms
  without_counts_at Equal found more = let e : c ≡ d = cc in rw e (omega arith)
  without_counts_at o found more = let more : marks_members (without k ms) + marks c ≡ marks_members ms = more found in omega arith

put_counts : (k : List ℕ) (b c : Data) (ms : Members) → AreMarkedMembers ms → get_member k ms ≡ Some c → marks_members (put k b ms) + marks c ≡ marks_members ms + marks b
put_counts k b c no_members h found = cc
put_counts k b c (member l d ms) h found = put_counts_at k l b c d ms (slice_cmp nat_cmp k l) refl h.0 found (put_counts k b c ms h.2)

new_counts : (k : List ℕ) (b : Data) (ms : Members) → get_member k ms ≡ None → marks_members (put k b ms) ≡ marks b + marks_members ms
new_counts k b no_members none = refl
new_counts k b (member l d ms) none = new_counts_at k l b b d ms (slice_cmp nat_cmp k l) none (new_counts k b ms)

pub without_counts : (k : List ℕ) (c : Data) (ms : Members) → get_member k ms ≡ Some c → marks_members (without k ms) + marks c ≡ marks_members ms
without_counts k c no_members found = cc
without_counts k c (member l d ms) found = without_counts_at k l c c d ms (slice_cmp nat_cmp k l) found (without_counts k c ms)

set_counts : (i : ℕ) (b c : Data) (ds : Items) → get_item i ds ≡ Some c → marks_items (set_item i b ds) + marks c ≡ marks_items ds + marks b
set_counts i b c no_items found = cc
set_counts zero b c (item d ds) found = let e : c ≡ d = cc in rw e (omega arith)
set_counts (suc i) b c (item d ds) found = let more : marks_items (set_item i b ds) + marks c ≡ marks_items ds + marks b = set_counts i b c ds found in omega arith

insert_counts : (i : ℕ) (v : Data) (ds : Items) → marks_items (insert_item i v ds) ≡ marks_items ds + marks v
insert_counts i v no_items = omega arith
insert_counts zero v (item d ds) = omega arith
insert_counts (suc i) v (item d ds) = let more : marks_items (insert_item i v ds) ≡ marks_items ds + marks v = insert_counts i v ds in omega arith

remove_counts : (i : ℕ) (c : Data) (ds : Items) → get_item i ds ≡ Some c → marks_items (remove_item i ds) + marks c ≡ marks_items ds
remove_counts i c no_items found = cc
remove_counts zero c (item d ds) found = let e : c ≡ d = cc in rw e (omega arith)
remove_counts (suc i) c (item d ds) found = let more : marks_items (remove_item i ds) + marks c ≡ marks_items ds = remove_counts i c ds found in omega arith

push_counts : (m : Data) (ds : Items) → marks_items (push_item m ds) ≡ marks_items ds + marks m
push_counts m no_items = omega arith
push_counts m (item d ds) = let more : marks_items (push_item m ds) ≡ marks_items ds + marks m = push_counts m ds in omega arith

pub child_counts : (s : Segment) (b c d : Data) → IsMarked d → child s d ≡ Some c → marks (set_child s b d) + marks c ≡ marks d + marks b
child_counts s b c d h is = search (rules, put_counts, set_counts)

mark_counts : (s : Segment) (m c d : Data) → IsMarked d → child s d ≡ Some c → marks (mark_child m s d) + marks c ≡ marks d + marks m
mark_counts (key k) m c (object ms) h is = put_counts k m c ms h is
mark_counts (place i) m c (array ds) h is =
    let gone : marks_items (remove_item i ds) + marks c ≡ marks_items ds = remove_counts i c ds is in omega (arith, push_counts m (remove_item i ds))
mark_counts s m c d h is = search rules

drop_counts : (s : Segment) (c d : Data) → child s d ≡ Some c → marks (drop_child s d) + marks c ≡ marks d
drop_counts s c d is = search (rules, without_counts, remove_counts)

-- what is in the container and what was found there, against what was there and what was put
pub counts_in : (edit : Edit) (v : Data) (t : List ℕ) (p q : Data) (found : Found) (w : Data) → Suits edit v → IsMarked p → Finds edit t p found w → made edit v t p ≡ Some q → marks q + found_marks found w ≡ marks p + put_marks edit v
counts_in Insert v t (array ds) q Nothing w hv hp finds is =
    option_map_some _ (slot_in t (items_len (seen_items ds))) q is (λ i slot whole. subst (λ x. marks x + 0 ≡ marks_items ds + marks v) whole (omega (arith, insert_counts i v ds)))
counts_in Insert v t (object ms) q Nothing w hv hp finds is =
    let e : object (put t v ms) ≡ q = cc in subst (λ x. marks x + 0 ≡ marks_members ms + marks v) e (omega (arith, new_counts t v ms (none_at ms t finds)))
counts_in Insert v t (object ms) q Former w hv hp finds is =
    let e : object (put t v ms) ≡ q = cc in
    subst (λ x. marks x + marks w ≡ marks_members ms + marks v) e (put_counts t v w ms hp (stands_at (object ms) t (key t) w refl finds))
counts_in Take v t p q Taken w hv hp finds is =
    shown_there (mark_child v) t p q _ is (λ s c named there whole. subst (λ x. marks x + marks w ≡ marks p + marks v) whole (mark_counts s v w p hp (stands_at p t s w named finds)))
counts_in Remove v t p q Taken w hv hp finds is =
    shown_there drop_child t p q _ is (λ s c named there whole. subst (λ x. marks x + marks w ≡ marks p + 0) whole (let h : marks (drop_child s p) + marks w ≡ marks p = drop_counts s w p (stands_at p t s w named finds) in omega arith))
counts_in Swap v t p q Former w hv hp finds is =
    shown_there (λ s d. set_child s v d) t p q _ is (λ s c named there whole. subst (λ x. marks x + marks w ≡ marks p + marks v) whole (child_counts s v w p hp (stands_at p t s w named finds)))
counts_in edit v t p q found w hv hp finds is = search rules

-- ---- at the end of a way down

pub change_counts : (f : Data → Option Data) (p : Data) (P : Pointer) (q : Data) (a b : ℕ) → ((c e : Data) → IsMarked c → pointee p P ≡ Some c → f c ≡ Some e → marks e + a ≡ marks c + b) → IsMarked p → after_change f p P ≡ Some q → marks q + a ≡ marks p + b
change_counts f p [] q a b each hp is = each p q hp refl is
change_counts f p (t ∷ P) q a b each hp is =
    option_and_then_some _ (segment_of p t) q is (λ s named more.
    option_and_then_some _ (child s p) q more (λ c stands rest.
    option_map_some _ (after_change f c P) q rest (λ e inner whole.
    (let below : marks e + a ≡ marks c + b = change_counts f c P e a b (λ x y hx at. each x y hx (rw (named, stands) at)) (child_marked s p c hp stands) inner in
    let here : marks (set_child s e p) + marks c ≡ marks p + marks e = child_counts s e c p hp stands in
    subst (λ x. marks x + a ≡ marks p + b) whole (omega arith)))))

-- ---- where a pointer leads

pub where_counts : (edit : Edit) (v p q : Data) (P : Pointer) (found : Found) (w : Data) → Suits edit v → IsMarked p → FindsWhere edit p P found w → made_where edit v p P ≡ Some q → marks q + found_marks found w ≡ marks p + put_marks edit v
where_counts Insert v p q [] Former w hv hp finds is = let e : v ≡ q = cc in let x : marks v ≡ marks q = ap marks e in let y : marks w ≡ marks p = ap marks finds in omega arith
where_counts Swap v p q [] Former w hv hp finds is = let e : v ≡ q = cc in let x : marks v ≡ marks q = ap marks e in let y : marks w ≡ marks p = ap marks finds in omega arith
where_counts edit v p q (t ∷ P) found w hv hp finds is =
    change_counts (made edit v (last_of t P)) p (front_of t P) q (found_marks found w) (put_marks edit v)
    (λ c e hc at here. (let same : finds.0 ≡ c = cc in counts_in edit v (last_of t P) c e found w hv hc (subst (λ x. Finds edit (last_of t P) x found w) same finds.2) here)) hp is
where_counts edit v p q P found w hv hp finds is = search rules

-- ---- marks that go

pub one_mark : (c : Data) → is_mark c ≡ true → marks c ≡ 1
one_mark c at = search rules

clear_counts_in : (t : List ℕ) (p q : Data) → clear_in t p ≡ Some q → marks q + 1 ≡ marks p + 0
clear_counts_in t (array ds) q is =
    if_marked (last_item ds) (array (pop_item ds)) q is (λ c last at e.
    subst (λ x. marks x + 1 ≡ marks_items ds + 0) e
    (let whole : marks_items (push_item c (pop_item ds)) ≡ marks_items ds = ap marks_items (push_last c ds last) in let one : marks c ≡ 1 = one_mark c at in omega (arith, push_counts c (pop_item ds))))
clear_counts_in t (object ms) q is =
    if_marked (get_member t ms) (object (without t ms)) q is (λ c stands at e.
    subst (λ x. marks x + 1 ≡ marks_members ms + 0) e (let one : marks c ≡ 1 = one_mark c at in let rest : marks_members (without t ms) + marks c ≡ marks_members ms = without_counts t c ms stands in omega arith))
clear_counts_in t p q is = search rules

-- one mark is cleared
pub clear_counts : (v p q : Data) (P : Pointer) → IsMarked p → made_where Clear v p P ≡ Some q → marks q + 1 ≡ marks p
clear_counts v p q [] hp is = cc
clear_counts v p q (t ∷ P) hp is =
    let all : marks q + 1 ≡ marks p + 0 = change_counts (clear_in (last_of t P)) p (front_of t P) q 1 0 (λ c e hc at here. clear_counts_in (last_of t P) c e here) hp is in omega arith

none_item : (b : Bool) (d : Data) (ds : Items) → (b ≡ false → marks d ≡ 0) → marks_items ds ≡ 0 → marks_items (item_unless b d ds) ≡ 0
none_item true d ds h more = refl
none_item false d ds h more = let here : marks d ≡ 0 = h refl in omega arith

none_member : (b : Bool) (k : List ℕ) (d : Data) (ms : Members) → (b ≡ false → marks d ≡ 0) → marks_members ms ≡ 0 → marks_members (member_unless b k d ms) ≡ 0
none_member true k d ms h more = more
none_member false k d ms h more = let here : marks d ≡ 0 = h refl in omega arith

mutual
  -- what is seen has no marks
  pub seen_counts : (d : Data) → is_mark d ≡ false → marks (seen d) ≡ 0
  seen_counts (array ds) at = items_seen_counts ds
  seen_counts (object ms) at = members_seen_counts ms
  seen_counts d at = search rules

  items_seen_counts : (ds : Items) → marks_items (seen_items ds) ≡ 0
  items_seen_counts no_items = refl
  items_seen_counts (item d ds) = none_item (is_mark d) (seen d) (seen_items ds) (λ at. seen_counts d at) (items_seen_counts ds)

  members_seen_counts : (ms : Members) → marks_members (seen_members ms) ≡ 0
  members_seen_counts no_members = refl
  members_seen_counts (member k d ms) = none_member (is_mark d) k (seen d) (seen_members ms) (λ at. seen_counts d at) (members_seen_counts ms)

sweep_counts_in : (t : List ℕ) (p q c : Data) → IsMarked p → pointee p (t ∷ []) ≡ Some c → sweep_in t p ≡ Some q → marks q + marks c ≡ marks p + 0
sweep_counts_in t p q c hp at is =
    shown_there sweep_child t p q _ is (λ s d named there whole.
    (let h = shown_some (child s p) d there in
    let same : d ≡ c = (let both : ◌≡◌ {A = Option Data} (Some d) (Some c) = sym h.0 ∙ stands_at p t s c named at in cc) in
    let none : marks (seen d) ≡ 0 = seen_counts d h.1 in
    let counted : marks d ≡ marks c = ap marks same in
    let here : marks (set_child s (seen d) p) + marks d ≡ marks p + marks (seen d) = child_counts s (seen d) d p hp h.0 in
    subst (λ x. marks x + marks c ≡ marks p + 0) (sym (sweeps_there s d p h.0) ∙ whole) (omega arith)))

-- all marks of what stands there are swept out
pub sweep_counts : (v p q c : Data) (P : Pointer) → IsMarked p → is_mark p ≡ false → pointee p P ≡ Some c → made_where Sweep v p P ≡ Some q → marks q + marks c ≡ marks p
sweep_counts v p q c [] hp at there is =
    let e : seen p ≡ q = cc in let x : marks (seen p) ≡ marks q = ap marks e in let none : marks (seen p) ≡ 0 = seen_counts p at in
    let same : p ≡ c = cc in let y : marks p ≡ marks c = ap marks same in omega arith
sweep_counts v p q c (t ∷ P) hp at there is =
    let inside : option_and_then (λ x. pointee x (last_of t P ∷ [])) (pointee p (front_of t P)) ≡ Some c = sym (found_append p (front_of t P) (last_of t P ∷ [])) ∙ ap (pointee p) (sym (split_whole t P)) ∙ there in
    let all : marks q + marks c ≡ marks p + 0 =
    change_counts (sweep_in (last_of t P)) p (front_of t P) q (marks c) 0 (λ x e hx stands here. sweep_counts_in (last_of t P) x e c hx (rw stands at inside) here) hp is in omega arith

-- ---- none

none_marks : (d : Data) → marks d ≡ 0 → is_mark d ≡ false
none_marks (number n) none = search rules
none_marks d none = refl

mutual
  pub unmarked_seen : (d : Data) → marks d ≡ 0 → seen d ≡ d
  unmarked_seen (array ds) none = ap array (unmarked_items ds none)
  unmarked_seen (object ms) none = ap object (unmarked_members ms none)
  unmarked_seen d none = refl

  unmarked_items : (ds : Items) → marks_items ds ≡ 0 → seen_items ds ≡ ds
  unmarked_items no_items none = refl
  unmarked_items (item d ds) none =
      let here : marks d ≡ 0 = omega arith in
      let later : marks_items ds ≡ 0 = omega arith in
      rw (none_marks d here, unmarked_seen d here, unmarked_items ds later) refl

  unmarked_members : (ms : Members) → marks_members ms ≡ 0 → seen_members ms ≡ ms
  unmarked_members no_members none = refl
  unmarked_members (member k d ms) none =
      let here : marks d ≡ 0 = omega arith in
      let later : marks_members ms ≡ 0 = omega arith in
      rw (none_marks d here, unmarked_seen d here, unmarked_members ms later) refl
