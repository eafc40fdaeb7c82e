-- How large the document is that an operation leaves, and with it the values that the operation's block holds.
use Rattle.json_patch_limits.proofs.Common.{◌≡◌, ◌≤◌, ◌+◌, ℕ, zero, suc, List, [], ◌∷◌, length, Option, Some, None, Ok}
use Rattle.json_patch_limits.proofs.Common.{option_and_then_some, Ordering, Less, Equal, Greater, match_ordering}
use Rattle.json_patch_limits.proofs.Common.{slice_cmp, nat_cmp, refl, sym, ap, ◌∙◌, subst, arith, rules, Data, array, object}
use Rattle.json_patch_limits.proofs.Common.{Items, no_items, item, Members, no_members, member, put, without, get_member, get_item}
use Rattle.json_patch_limits.proofs.Common.{Segment, key, place, child, segment_of, set_child, drop_child, insert_item, remove_item}
use Rattle.json_patch_limits.proofs.Common.{set_item, slot_of, put_in, take_from, after_change, after_add, after_remove, after_replace}
use Rattle.json_patch_limits.proofs.Common.{pointee, Pointer, front_of, last_of, Operation, add, remove, replace, move, copy, test}
use Rattle.json_patch_limits.proofs.Common.{IsDocument, IsWholeOp, Leaves, after_step, begins, after_copy, after_move, InvalidPointer}
use Rattle.json_patch_limits.proofs.Common.{CannotMoveInsideItself, Bool, true, false}
use Rattle.json_patch_limits.proofs.Common.{IsBelowMembers, AreMembers, IsRemoved}
use Rattle.json_patch_edit.proofs.Changes.{removed_is}
use Rattle.json_patch_edit.proofs.Locations.{option_map_some, resolves_found}
use Rattle.json_patch_edit.proofs.BlocksLeadBack.{found_last}
use Rattle.json_patch_document.proofs.Members.{below_absent, below_more, child_document}
use Rattle.json_patch_limits.proofs.Depths.{moves_on, or_refused_ok, tested_same}
use Rattle.json_patch_operation.specs.Operation.{parts_of}
use Rattle.json_patch_edit.specs.InverseComputed.{block, undo_add, undo_at, undo_in, with_found}
use Rattle.json_patch_edit.proofs.StepOutcomes.{leaves_document, leaves_stepped, stepped_leaves}
use Rattle.json_patch_limits.specs.OverLimits.{copied_by, own_size, size, size_at, items_size, members_size, tokens_size, values_size}

-- ---- in a container

insert_size : (i : ℕ) (v : Data) (ds : Items) → items_size (insert_item i v ds) ≡ items_size ds + size v
insert_size i v no_items = omega arith
insert_size zero v (item d ds) = omega arith
insert_size (suc i) v (item d ds) = let more : items_size (insert_item i v ds) ≡ items_size ds + size v = insert_size i v ds in omega arith

set_size : (i : ℕ) (c v : Data) (ds : Items) → get_item i ds ≡ Some c → items_size (set_item i v ds) + size c ≡ items_size ds + size v
set_size i c v no_items is = cc
set_size zero c v (item d ds) is = let e : d ≡ c = cc in rw (← e) (omega arith)
set_size (suc i) c v (item d ds) is = let more : items_size (set_item i v ds) + size c ≡ items_size ds + size v = set_size i c v ds is in omega arith

remove_size : (i : ℕ) (c : Data) (ds : Items) → get_item i ds ≡ Some c → items_size (remove_item i ds) + size c ≡ items_size ds
remove_size i c no_items is = cc
remove_size zero c (item d ds) is = let e : d ≡ c = cc in rw (← e) (omega arith)
remove_size (suc i) c (item d ds) is = let more : items_size (remove_item i ds) + size c ≡ items_size ds = remove_size i c ds is in omega arith

put_size_at : (o : Ordering) (k l : List ℕ) (v d : Data) (ms more : Members) → members_size more ≤ members_size ms + (length k + size v)
    → members_size (match_ordering o (member k v (member l d ms)) (member l v ms) (member l d more)) ≤ length l + (size d + members_size ms) + (length k + size v)
put_size_at Less k l v d ms more h = omega arith
put_size_at Equal k l v d ms more h = omega arith
put_size_at Greater k l v d ms more h = omega arith

put_size : (k : List ℕ) (v : Data) (ms : Members) → members_size (put k v ms) ≤ members_size ms + (length k + size v)
put_size k v no_members = omega arith
put_size k v (member l d ms) = put_size_at (slice_cmp nat_cmp k l) k l v d ms (put k v ms) (put_size k v ms)

module _ (k l : List ℕ) (c v d : Data) (ms : Members) where
  -- a member in place of one that stands there
  swap_size_at : (o : Ordering) → slice_cmp nat_cmp k l ≡ o → IsBelowMembers l ms → match_ordering o (get_member k ms) (Some d) (get_member k ms) ≡ Some c
      → (get_member k ms ≡ Some c → members_size (put k v ms) + size c ≤ members_size ms + size v)
      → members_size (match_ordering o (member k v (member l d ms)) (member l v ms) (member l d (put k v ms))) + size c ≤ length l + (size d + members_size ms) + size v
  swap_size_at Less is h found more = let none : get_member k ms ≡ None = below_absent k ms (below_more k l ms is h) in cc
  swap_size_at Equal is h found more = let e : c ≡ d = cc in rw e (omega arith)
  swap_size_at Greater is h found more = let more : members_size (put k v ms) + size c ≤ members_size ms + size v = more found in omega arith

  without_size_at : (o : Ordering) → match_ordering o (get_member k ms) (Some d) (get_member k ms) ≡ Some c → (get_member k ms ≡ Some c → members_size (without k ms) + size c ≤ members_size ms)
      → members_size (match_ordering o (member l d (without k ms)) ms (member l d (without k ms))) + size c ≤ length l + (size d + members_size ms)
  without_size_at Less found more = let more : members_size (without k ms) + size c ≤ members_size ms = more found in omega arith
  without_size_at Equal found more = let e : c ≡ d = cc in rw e (omega arith)
  without_size_at Greater found more = let more : members_size (without k ms) + size c ≤ members_size ms = more found in omega arith

without_size : (k : List ℕ) (c : Data) (ms : Members) → get_member k ms ≡ Some c → members_size (without k ms) + size c ≤ members_size ms
without_size k c no_members is = cc
without_size k c (member l d ms) is = without_size_at k l c c d ms (slice_cmp nat_cmp k l) is (λ h. without_size k c ms h)

swap_size : (k : List ℕ) (c v : Data) (ms : Members) → AreMembers ms → get_member k ms ≡ Some c → members_size (put k v ms) + size c ≤ members_size ms + size v
swap_size k c v no_members h is = cc
swap_size k c v (member l d ms) h is = swap_size_at k l c v d ms (slice_cmp nat_cmp k l) refl h.0 is (λ at. swap_size k c v ms h.2 at)

-- ---- a child

set_child_size : (s : Segment) (d c e : Data) → IsDocument d → child s d ≡ Some c → size (set_child s e d) + size c ≤ size d + size e
set_child_size (key k) (object ms) c e h is = let more : members_size (put k e ms) + size c ≤ members_size ms + size e = swap_size k c e ms h is in omega arith
set_child_size (place i) (array ds) c e h is = let more : items_size (set_item i e ds) + size c ≡ items_size ds + size e = set_size i c e ds is in omega arith
set_child_size s d c e h is = search rules

drop_child_size : (s : Segment) (d c : Data) → child s d ≡ Some c → size (drop_child s d) + size c ≤ size d
drop_child_size (key k) (object ms) c is = let h : members_size (without k ms) + size c ≤ members_size ms = without_size k c ms is in omega arith
drop_child_size (place i) (array ds) c is = let h : items_size (remove_item i ds) + size c ≡ items_size ds = remove_size i c ds is in omega arith
drop_child_size s d c is = search rules

-- ---- down a document

change_size : (f : Data → Option Data) (d e : Data) (P : Pointer) (a b : ℕ) → ((p q : Data) → IsDocument p → pointee d P ≡ Some p → f p ≡ Some q → size q + a ≤ size p + b) → IsDocument d → after_change f d P ≡ Some e → size e + a ≤ size d + b
change_size f d e [] a b each hd is = each d e hd refl is
change_size f d e (t ∷ P) a b each hd is =
    option_and_then_some _ (segment_of d t) e is (λ s named more.
    option_and_then_some _ (child s d) e more (λ c stands rest.
    option_map_some _ (after_change f c P) e rest (λ x inner whole.
    (let below : size x + a ≤ size c + b = change_size f c x P a b (λ p q hp at. each p q hp (rw (named, stands) at)) (child_document s d c hd stands) inner in
    let here : size (set_child s x d) + size c ≤ size d + size x = set_child_size s d c x hd stands in
    subst (λ y. size y + a ≤ size d + b) whole (omega arith)))))

-- ---- the changes

put_in_size : (v : Data) (t : List ℕ) (p q : Data) → put_in v t p ≡ Some q → size q ≤ size p + (length t + size v)
put_in_size v t (array ds) q is =
    option_map_some _ (slot_of t ds) q is (λ i at whole. subst (λ x. size x ≤ suc (items_size ds) + (length t + size v)) whole (omega (arith, insert_size i v ds)))
put_in_size v t (object ms) q is =
    let whole : object (put t v ms) ≡ q = cc in subst (λ x. size x ≤ suc (members_size ms) + (length t + size v)) whole (omega (arith, put_size t v ms))
put_in_size v t p q is = search rules

last_size : (t : List ℕ) (P : Pointer) → length (last_of t P) ≤ tokens_size (t ∷ P)
last_size t [] = omega arith
last_size t (u ∷ P) = let more : length (last_of u P) ≤ tokens_size (u ∷ P) = last_size u P in omega arith

add_size : (d v e : Data) (P : Pointer) → IsDocument d → after_add d P v ≡ Some e → size e ≤ size d + (tokens_size P + size v)
add_size d v e [] hd is = let same : v ≡ e = cc in rw (← same) (omega arith)
add_size d v e (t ∷ P) hd is =
    let at : size e + 0 ≤ size d + (length (last_of t P) + size v) = change_size (put_in v (last_of t P)) d e (front_of t P) 0 (length (last_of t P) + size v)
    (λ p q hp stands is. (let h : size q ≤ size p + (length (last_of t P) + size v) = put_in_size v (last_of t P) p q is in omega arith)) hd is in
    let last : length (last_of t P) ≤ tokens_size (t ∷ P) = last_size t P in omega arith

take_from_size : (t : List ℕ) (p q v : Data) → take_from t p ≡ Some q → pointee p (t ∷ []) ≡ Some v → size q + size v ≤ size p
take_from_size t p q v is found =
    option_and_then_some _ (segment_of p t) q is (λ s named more.
    option_map_some _ (child s p) q more (λ c stands whole.
    (let same : c ≡ v = (let at : pointee p (t ∷ []) ≡ Some c = rw (named, stands) refl in cc) in
    let h : size (drop_child s p) + size c ≤ size p = drop_child_size s p c stands in
    subst (λ x. size x + size v ≤ size p) whole (subst (λ y. size (drop_child s p) + size y ≤ size p) same h))))

remove_size_at : (d e v : Data) (P : Pointer) → IsDocument d → after_remove d P ≡ Some e → pointee d P ≡ Some v → size e + size v ≤ size d
remove_size_at d e v [] hd is found = cc
remove_size_at d e v (t ∷ P) hd is found =
    let at : size e + size v ≤ size d + 0 = change_size (take_from (last_of t P)) d e (front_of t P) (size v) 0
    (λ p q hp stands is. (let h : size q + size v ≤ size p = take_from_size (last_of t P) p q v is (sym (found_last d t P p stands) ∙ found) in omega arith)) hd is in omega arith

-- what is removed stood there
removed_less : (d e : Data) (P : Pointer) → IsDocument d → after_remove d P ≡ Some e → size e ≤ size d
removed_less d e P hd is =
    let h : IsRemoved d P e = removed_is d P e hd is in
    let gone : size e + size h.2 ≤ size d = remove_size_at d e h.2 P hd is (resolves_found d P _ h.2 h.3) in omega arith

replace_size : (d v e : Data) (P : Pointer) → IsDocument d → after_replace d P v ≡ Some e → size e ≤ size d + (tokens_size P + size v)
replace_size d v e P hd is =
    let at : size e + 0 ≤ size d + size v = change_size (λ c. Some v) d e P 0 (size v) (λ p q hp stands is. (let same : size v ≡ size q = (let whole : v ≡ q = cc in ap size whole) in omega arith)) hd is in omega arith

-- ---- a step

copied_size : (d e : Data) (P : Pointer) (o : Option Data) → IsDocument d → after_copy d P o ≡ Ok e → size e ≤ size d + (tokens_size P + 0 + size_at o)
copied_size d e P None hd is = cc
copied_size d e P (Some v) hd is = let h : size e ≤ size d + (tokens_size P + size v) = add_size d v e P hd (or_refused_ok InvalidPointer (after_add d P v) e is) in omega arith

moved_size : (d e : Data) (F P : Pointer) (o r : Option Data) → IsDocument d → pointee d F ≡ o → after_remove d F ≡ r → after_move P o r ≡ Ok e → size e ≤ size d + (tokens_size P + 0 + 0)
moved_size d e F P (Some v) (Some m) hd found took is =
    let hm : IsDocument m = leaves_document d (remove F) m hd tt (stepped_leaves d (remove F) m hd tt (rw took refl)) in
    let gone : size m + size v ≤ size d = remove_size_at d m v F hd took found in
    let h : size e ≤ size m + (tokens_size P + size v) = add_size m v e P hm (or_refused_ok InvalidPointer (after_add m P v) e is) in omega arith
moved_size d e F P None r hd found took is = cc
moved_size d e F P (Some v) None hd found took is = cc

stepped_size : (d : Data) (op : Operation) (e : Data) → IsDocument d → after_step d op ≡ Ok e → size e ≤ size d + (own_size op + copied_by false d op)
stepped_size d (add P v) e hd is = let h : size e ≤ size d + (tokens_size P + size v) = add_size d v e P hd (or_refused_ok InvalidPointer (after_add d P v) e is) in omega arith
stepped_size d (remove P) e hd is = let h : size e ≤ size d = removed_less d e P hd (or_refused_ok InvalidPointer (after_remove d P) e is) in omega arith
stepped_size d (replace P v) e hd is = let h : size e ≤ size d + (tokens_size P + size v) = replace_size d v e P hd (or_refused_ok InvalidPointer (after_replace d P v) e is) in omega arith
stepped_size d (move F P) e hd is =
    moved_size d e F P (pointee d F) (after_remove d F) hd refl refl (moves_on (begins F P) (after_move P (pointee d F) (after_remove d F)) CannotMoveInsideItself e is)
stepped_size d (copy F P) e hd is = copied_size d e P (pointee d F) hd is
stepped_size d (test P v) e hd is = let same : e ≡ d = tested_same d v e (pointee d P) is in rw same (omega arith)

pub step_size : (d : Data) (op : Operation) (e : Data) → IsDocument d → IsWholeOp op → Leaves d op e → size e ≤ size d + (own_size op + copied_by false d op)
step_size d op e hd hv leaves = stepped_size d op e hd (leaves_stepped d op e hd hv leaves)

-- ---- what a block holds

-- no array stands there
abbrev NoList : Option Data → Type 0
NoList (Some (array ds)) = ⊥
NoList o = Unit {0}

found_member : (t : List ℕ) (ms : Members) (w : Data) → pointee (object ms) (t ∷ []) ≡ Some w → get_member t ms ≡ Some w
found_member t ms w is = search rules

-- a member put in where another stood
put_over_size : (v w : Data) (t : List ℕ) (p q : Data) → NoList (Some p) → IsDocument p → put_in v t p ≡ Some q → pointee p (t ∷ []) ≡ Some w → size q + size w ≤ size p + (length t + size v)
put_over_size v w t (array ds) q free hp is found = absurd free
put_over_size v w t (object ms) q free hp is found =
    let whole : object (put t v ms) ≡ q = cc in
    let swapped : members_size (put t v ms) + size w ≤ members_size ms + size v = swap_size t w v ms hp (found_member t ms w found) in
    subst (λ x. size x + size w ≤ suc (members_size ms) + (length t + size v)) whole (omega arith)
put_over_size v w t p q free hp is found = search rules

-- a value added where another stood, whose parent is no array
added_over_size : (d v w e : Data) (t : List ℕ) (P : Pointer) → NoList (pointee d (front_of t P)) → IsDocument d → after_add d (t ∷ P) v ≡ Some e → pointee d (t ∷ P) ≡ Some w
    → size e + size w ≤ size d + (tokens_size (t ∷ P) + size v)
added_over_size d v w e t P free hd is found =
    let at : size e + size w ≤ size d + (length (last_of t P) + size v) = change_size (put_in v (last_of t P)) d e (front_of t P) (size w) (length (last_of t P) + size v)
    (λ p q hp stands is. put_over_size v w (last_of t P) p q (subst NoList stands free) hp is (sym (found_last d t P p stands) ∙ found)) hd is in
    let last : length (last_of t P) ≤ tokens_size (t ∷ P) = last_size t P in omega arith

-- how large the value is that an operation holds, if it holds one
abbrev held : Operation → ℕ
held op = size_at (parts_of op).value

undo_at_size : (d v e : Data) (t : List ℕ) (P : Pointer) (o : Option Data) → NoList (pointee d (front_of t P)) → IsDocument d → after_add d (t ∷ P) v ≡ Some e → pointee d (t ∷ P) ≡ o
    → held (undo_at (t ∷ P) o) + size e ≤ size d + (tokens_size (t ∷ P) + size v)
undo_at_size d v e t P None free hd is found = let h : size e ≤ size d + (tokens_size (t ∷ P) + size v) = add_size d v e (t ∷ P) hd is in omega arith
undo_at_size d v e t P (Some w) free hd is found = let h : size e + size w ≤ size d + (tokens_size (t ∷ P) + size v) = added_over_size d v w e t P free hd is found in omega arith

undo_in_size : (d v e : Data) (t : List ℕ) (P : Pointer) (o : Option Data) → pointee d (front_of t P) ≡ o → IsDocument d → after_add d (t ∷ P) v ≡ Some e
    → held (undo_in d (front_of t P) (last_of t P) (t ∷ P) o) + size e ≤ size d + (tokens_size (t ∷ P) + size v)
undo_in_size d v e t P (Some (array ds)) at hd is = let h : size e ≤ size d + (tokens_size (t ∷ P) + size v) = add_size d v e (t ∷ P) hd is in omega arith
undo_in_size d v e t P o at hd is = undo_at_size d v e t P (pointee d (t ∷ P)) (subst NoList (sym at) tt) hd is refl

undo_size : (d v e : Data) (P : Pointer) → IsDocument d → after_add d P v ≡ Some e → held (undo_add d P) + size e ≤ size d + (tokens_size P + size v)
undo_size d v e [] hd is = let same : v ≡ e = cc in rw (← same) (omega arith)
undo_size d v e (t ∷ P) hd is = undo_in_size d v e t P (pointee d (front_of t P)) refl hd is

-- a value replaced
replaced_over_size : (d v w e : Data) (P : Pointer) → IsDocument d → after_replace d P v ≡ Some e → pointee d P ≡ Some w → size e + size w ≤ size d + size v
replaced_over_size d v w e P hd is found =
    change_size (λ c. Some v) d e P (size w) (size v) (λ p q hp stands is.
    (let new : size v ≡ size q = (let whole : v ≡ q = cc in ap size whole) in
    let old : size p ≡ size w = (let whole : p ≡ w = cc in ap size whole) in omega arith)) hd is

removed_block_size : (d e : Data) (P : Pointer) (o : Option Data) → IsDocument d → after_remove d P ≡ Some e → pointee d P ≡ o
    → values_size (with_found o (λ w. add P w ∷ [])) + size e ≤ size d
removed_block_size d e P None hd is found = let h : size e ≤ size d = removed_less d e P hd is in omega arith
removed_block_size d e P (Some w) hd is found = let h : size e + size w ≤ size d = remove_size_at d e w P hd is found in omega arith

replaced_block_size : (d v e : Data) (P : Pointer) (o : Option Data) → IsDocument d → after_replace d P v ≡ Some e → pointee d P ≡ o
    → values_size (with_found o (λ w. replace P w ∷ [])) + size e ≤ size d + (tokens_size P + size v)
replaced_block_size d v e P None hd is found = let h : size e ≤ size d + (tokens_size P + size v) = replace_size d v e P hd is in omega arith
replaced_block_size d v e P (Some w) hd is found = let h : size e + size w ≤ size d + size v = replaced_over_size d v w e P hd is found in omega arith

copied_block_size : (d e : Data) (P : Pointer) (o : Option Data) → IsDocument d → after_copy d P o ≡ Ok e → held (undo_add d P) + size e ≤ size d + (tokens_size P + 0 + size_at o)
copied_block_size d e P None hd is = cc
copied_block_size d e P (Some v) hd is = let h : held (undo_add d P) + size e ≤ size d + (tokens_size P + size v) = undo_size d v e P hd (or_refused_ok InvalidPointer (after_add d P v) e is) in omega arith

moved_block_size : (d e : Data) (F P : Pointer) (o r : Option Data) → IsDocument d → pointee d F ≡ o → after_remove d F ≡ r → after_move P o r ≡ Ok e
    → values_size (with_found o (λ v. with_found r (λ m. undo_add m P ∷ add F v ∷ []))) + size e ≤ size d + (tokens_size P + 0 + size_at o)
moved_block_size d e F P (Some v) (Some m) hd found took is =
    let hm : IsDocument m = leaves_document d (remove F) m hd tt (stepped_leaves d (remove F) m hd tt (rw took refl)) in
    let gone : size m + size v ≤ size d = remove_size_at d m v F hd took found in
    let h : held (undo_add m P) + size e ≤ size m + (tokens_size P + size v) = undo_size m v e P hm (or_refused_ok InvalidPointer (after_add m P v) e is) in omega arith
moved_block_size d e F P None r hd found took is = cc
moved_block_size d e F P (Some v) None hd found took is = cc

stepped_block_size : (d : Data) (op : Operation) (e : Data) → IsDocument d → after_step d op ≡ Ok e → values_size (block d op) + size e ≤ size d + (own_size op + copied_by true d op)
stepped_block_size d (add P v) e hd is = let h : held (undo_add d P) + size e ≤ size d + (tokens_size P + size v) = undo_size d v e P hd (or_refused_ok InvalidPointer (after_add d P v) e is) in omega arith
stepped_block_size d (remove P) e hd is =
    let h : values_size (block d (remove P)) + size e ≤ size d = removed_block_size d e P (pointee d P) hd (or_refused_ok InvalidPointer (after_remove d P) e is) refl in omega arith
stepped_block_size d (replace P v) e hd is =
    let h : values_size (block d (replace P v)) + size e ≤ size d + (tokens_size P + size v) = replaced_block_size d v e P (pointee d P) hd (or_refused_ok InvalidPointer (after_replace d P v) e is) refl in omega arith
stepped_block_size d (move F P) e hd is =
    moved_block_size d e F P (pointee d F) (after_remove d F) hd refl refl (moves_on (begins F P) (after_move P (pointee d F) (after_remove d F)) CannotMoveInsideItself e is)
stepped_block_size d (copy F P) e hd is = let h : held (undo_add d P) + size e ≤ size d + (tokens_size P + 0 + size_at (pointee d F)) = copied_block_size d e P (pointee d F) hd is in omega arith
stepped_block_size d (test P v) e hd is = let same : e ≡ d = tested_same d v e (pointee d P) is in rw same (omega arith)

pub block_size : (d : Data) (op : Operation) (e : Data) → IsDocument d → IsWholeOp op → Leaves d op e → values_size (block d op) + size e ≤ size d + (own_size op + copied_by true d op)
block_size d op e hd hv leaves = stepped_block_size d op e hd (leaves_stepped d op e hd hv leaves)
