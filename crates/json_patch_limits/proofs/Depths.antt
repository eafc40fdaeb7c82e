-- How deep the document is that an operation leaves.
use Rattle.json_patch_limits.proofs.Common.{◌≡◌, ◌≤◌, ◌<◌, ◌+◌, ℕ, zero, suc, List, [], ◌∷◌, length, Option, Some, None, Result, Ok, Err}
use Rattle.json_patch_limits.proofs.Common.{⊎_elim, cases_lt, option_and_then_some, Ordering, Less, Equal, Greater, match_ordering}
use Rattle.json_patch_limits.proofs.Common.{slice_cmp, nat_cmp, refl, ap, arith, rules, nat_tests, Data, array, object}
use Rattle.json_patch_limits.proofs.Common.{Items, no_items, item, Members, no_members, member, put, without, get_member, get_item}
use Rattle.json_patch_limits.proofs.Common.{Segment, key, place, child, segment_of, set_child, drop_child, insert_item, remove_item}
use Rattle.json_patch_limits.proofs.Common.{set_item, slot_of, put_in, take_from, after_change, after_add, after_remove, after_replace}
use Rattle.json_patch_limits.proofs.Common.{pointee, Pointer, front_of, last_of, Operation, add, remove, replace, move, copy, test}
use Rattle.json_patch_limits.proofs.Common.{IsDocument, IsWholeOp, Leaves, after_step, begins, or_refused, after_copy, after_move, after_test, InvalidPointer}
use Rattle.json_patch_limits.proofs.Common.{CannotMoveInsideItself, PatchErrorKind, Bool, true, false, if◌then◌else◌}
use Rattle.std.specs.Prelude.{nat_lt, max, ◌-◌}
use Rattle.serde_json.specs.Data.{depth, items_depth, members_depth}
use Rattle.json_patch_limits.proofs.Common.{◌↔◌, get_member-put}
use Rattle.json_patch_edit.proofs.Locations.{option_map_some}
use Rattle.json_patch_document.proofs.Members.{child_set}
use Rattle.json_patch_edit.proofs.StepOutcomes.{leaves_stepped}
use Rattle.json_patch_limits.specs.OverLimits.{reach_at, reach_of}

-- ---- in a container

item_depth : (i : ℕ) (c : Data) (ds : Items) → get_item i ds ≡ Some c → depth c ≤ items_depth ds
item_depth i c no_items is = cc
item_depth zero c (item d ds) is = let e : d ≡ c = cc in rw (← e) (omega arith)
item_depth (suc i) c (item d ds) is = let h : depth c ≤ items_depth ds = item_depth i c ds is in omega arith

insert_depth : (i : ℕ) (v : Data) (ds : Items) (b : ℕ) → items_depth ds ≤ b → depth v ≤ b → items_depth (insert_item i v ds) ≤ b
insert_depth i v no_items b h hv = omega arith
insert_depth zero v (item d ds) b h hv = omega arith
insert_depth (suc i) v (item d ds) b h hv = let more : items_depth (insert_item i v ds) ≤ b = insert_depth i v ds b (omega arith) hv in omega arith

set_depth : (i : ℕ) (v : Data) (ds : Items) (b : ℕ) → items_depth ds ≤ b → depth v ≤ b → items_depth (set_item i v ds) ≤ b
set_depth i v no_items b h hv = omega arith
set_depth zero v (item d ds) b h hv = omega arith
set_depth (suc i) v (item d ds) b h hv = let more : items_depth (set_item i v ds) ≤ b = set_depth i v ds b (omega arith) hv in omega arith

remove_depth : (i : ℕ) (ds : Items) → items_depth (remove_item i ds) ≤ items_depth ds
remove_depth i no_items = omega arith
remove_depth zero (item d ds) = omega arith
remove_depth (suc i) (item d ds) = let more : items_depth (remove_item i ds) ≤ items_depth ds = remove_depth i ds in omega arith

member_depth_at : (o : Ordering) (c d : Data) (other : Option Data) (n : ℕ) → match_ordering o other (Some d) other ≡ Some c → (other ≡ Some c → depth c ≤ n) → depth c ≤ max (depth d) n
member_depth_at Equal c d other n is more = let e : d ≡ c = cc in rw (← e) (omega arith)
member_depth_at Less c d other n is more = let h : depth c ≤ n = more is in omega arith
member_depth_at Greater c d other n is more = let h : depth c ≤ n = more is in omega arith

pub member_depth : (k : List ℕ) (c : Data) (ms : Members) → get_member k ms ≡ Some c → depth c ≤ members_depth ms
member_depth k c no_members is = cc
member_depth k c (member l d ms) is = member_depth_at (slice_cmp nat_cmp k l) c d (get_member k ms) (members_depth ms) is (λ h. member_depth k c ms h)

put_depth_at : (o : Ordering) (k l : List ℕ) (v d : Data) (ms more : Members) (b : ℕ) → max (depth d) (members_depth ms) ≤ b → depth v ≤ b → members_depth more ≤ b
    → members_depth (match_ordering o (member k v (member l d ms)) (member l v ms) (member l d more)) ≤ b
put_depth_at Less k l v d ms more b h hv hm = omega arith
put_depth_at Equal k l v d ms more b h hv hm = omega arith
put_depth_at Greater k l v d ms more b h hv hm = omega arith

pub put_depth : (k : List ℕ) (v : Data) (ms : Members) (b : ℕ) → members_depth ms ≤ b → depth v ≤ b → members_depth (put k v ms) ≤ b
put_depth k v no_members b h hv = omega arith
put_depth k v (member l d ms) b h hv = put_depth_at (slice_cmp nat_cmp k l) k l v d ms (put k v ms) b h hv (put_depth k v ms b (omega arith) hv)

without_depth_at : (o : Ordering) (l : List ℕ) (d : Data) (ms more : Members) → members_depth more ≤ members_depth ms
    → members_depth (match_ordering o (member l d more) ms (member l d more)) ≤ max (depth d) (members_depth ms)
without_depth_at Less l d ms more h = omega arith
without_depth_at Equal l d ms more h = omega arith
without_depth_at Greater l d ms more h = omega arith

pub without_depth : (k : List ℕ) (ms : Members) → members_depth (without k ms) ≤ members_depth ms
without_depth k no_members = omega arith
without_depth k (member l d ms) = without_depth_at (slice_cmp nat_cmp k l) l d ms (without k ms) (without_depth k ms)

-- ---- a child

child_depth : (s : Segment) (d c : Data) → child s d ≡ Some c → depth c < depth d
child_depth (key k) (object ms) c is = let h : depth c ≤ members_depth ms = member_depth k c ms is in omega arith
child_depth (place i) (array ds) c is = let h : depth c ≤ items_depth ds = item_depth i c ds is in omega arith
child_depth s d c is = search rules

set_child_depth : (s : Segment) (d c e : Data) (b : ℕ) → child s d ≡ Some c → depth d ≤ suc b → depth e ≤ b → depth (set_child s e d) ≤ suc b
set_child_depth (key k) (object ms) c e b is h he = let more : members_depth (put k e ms) ≤ b = put_depth k e ms b (omega arith) he in omega arith
set_child_depth (place i) (array ds) c e b is h he = let more : items_depth (set_item i e ds) ≤ b = set_depth i e ds b (omega arith) he in omega arith
set_child_depth s d c e b is h he = search rules

drop_child_depth : (s : Segment) (d : Data) → depth (drop_child s d) ≤ depth d
drop_child_depth (key k) (object ms) = let h : members_depth (without k ms) ≤ members_depth ms = without_depth k ms in omega arith
drop_child_depth (place i) (array ds) = let h : items_depth (remove_item i ds) ≤ items_depth ds = remove_depth i ds in omega arith
drop_child_depth s d = search (rules, arith)

-- ---- down a document

-- what stands at a pointer is as much less deep as the pointer has tokens
pub found_depth : (d v : Data) (P : Pointer) → pointee d P ≡ Some v → length P + depth v ≤ depth d
found_depth d v [] is = let e : d ≡ v = cc in rw e (omega arith)
found_depth d v (t ∷ P) is =
    option_and_then_some _ (segment_of d t) v is (λ s named more.
    option_and_then_some _ (child s d) v more (λ c stands rest.
    (let h : length P + depth v ≤ depth c = found_depth c v P rest in let g : depth c < depth d = child_depth s d c stands in omega arith)))

change_depth : (f : Data → Option Data) (m : ℕ) → ((p q : Data) → f p ≡ Some q → depth p ≤ m → depth q ≤ m)
    → (d e : Data) (P : Pointer) → after_change f d P ≡ Some e → depth d ≤ length P + m → depth e ≤ length P + m
change_depth f m keeps d e [] is h = let g : depth e ≤ m = keeps d e is (omega arith) in omega arith
change_depth f m keeps d e (t ∷ P) is h =
    option_and_then_some _ (segment_of d t) e is (λ s named more.
    option_and_then_some _ (child s d) e more (λ c stands rest.
    option_map_some _ (after_change f c P) e rest (λ x inner whole.
    (let g : depth c < depth d = child_depth s d c stands in
    let i : depth x ≤ length P + m = change_depth f m keeps c x P inner (omega arith) in
    let at : depth (set_child s x d) ≤ suc (length P + m) = set_child_depth s d c x (length P + m) stands (omega arith) i in
    let same : depth (set_child s x d) ≡ depth e = ap depth whole in omega arith))))

-- a pointer at which something is changed has no more tokens than the document is deep
change_reach : (f : Data → Option Data) (d e : Data) (P : Pointer) → after_change f d P ≡ Some e → length P ≤ depth d
change_reach f d e [] is = omega arith
change_reach f d e (t ∷ P) is =
    option_and_then_some _ (segment_of d t) e is (λ s named more.
    option_and_then_some _ (child s d) e more (λ c stands rest.
    option_map_some _ (after_change f c P) e rest (λ x inner whole.
    (let h : length P ≤ depth c = change_reach f c x P inner in let g : depth c < depth d = child_depth s d c stands in omega arith))))

-- where the change is bounded, at the pointer, so is the whole
bounded : (f : Data → Option Data) (b : ℕ) (d e : Data) (P : Pointer) → ((m : ℕ) → b ≡ length P + m → (p q : Data) → f p ≡ Some q → depth p ≤ m → depth q ≤ m)
    → after_change f d P ≡ Some e → depth d ≤ b → depth e ≤ b
bounded f b d e P keeps is h =
    let reach : length P ≤ depth d = change_reach f d e P is in
    let whole : b ≡ length P + (b - length P) = omega arith in
    let at : depth e ≤ length P + (b - length P) = change_depth f (b - length P) (keeps (b - length P) whole) d e P is (omega arith) in omega arith

-- ---- the changes

length_front : (t : List ℕ) (P : Pointer) → length (front_of t P) ≡ length P
length_front t [] = refl
length_front t (u ∷ P) = ap suc (length_front u P)

put_in_depth : (v : Data) (t : List ℕ) (p q : Data) (m : ℕ) → put_in v t p ≡ Some q → depth p ≤ m → suc (depth v) ≤ m → depth q ≤ m
put_in_depth v t (array ds) q m is h hv =
    option_map_some _ (slot_of t ds) q is (λ i at whole.
    (let g : items_depth (insert_item i v ds) ≤ m - 1 = insert_depth i v ds (m - 1) (omega arith) (omega arith) in
    let same : suc (items_depth (insert_item i v ds)) ≡ depth q = ap depth whole in omega arith))
put_in_depth v t (object ms) q m is h hv =
    let whole : object (put t v ms) ≡ q = cc in
    let g : members_depth (put t v ms) ≤ m - 1 = put_depth t v ms (m - 1) (omega arith) (omega arith) in
    let same : suc (members_depth (put t v ms)) ≡ depth q = ap depth whole in omega arith
put_in_depth v t p q m is h hv = search rules

add_depth : (d v e : Data) (P : Pointer) (b : ℕ) → after_add d P v ≡ Some e → depth d ≤ b → length P + depth v ≤ b → depth e ≤ b
add_depth d v e [] b is h hv = let same : v ≡ e = cc in rw (← same) (omega arith)
add_depth d v e (t ∷ P) b is h hv =
    bounded (put_in v (last_of t P)) b d e (front_of t P) (λ m whole p q at hp. put_in_depth v (last_of t P) p q m at hp (let n : length (front_of t P) ≡ length P = length_front t P in omega arith)) is h

take_from_depth : (t : List ℕ) (p q : Data) → take_from t p ≡ Some q → depth q ≤ depth p
take_from_depth t p q is =
    option_and_then_some _ (segment_of p t) q is (λ s named more.
    option_map_some _ (child s p) q more (λ c stands whole.
    (let h : depth (drop_child s p) ≤ depth p = drop_child_depth s p in let same : depth (drop_child s p) ≡ depth q = ap depth whole in omega arith)))

pub remove_depth_at : (d e : Data) (P : Pointer) (b : ℕ) → after_remove d P ≡ Some e → depth d ≤ b → depth e ≤ b
remove_depth_at d e [] b is h = cc
remove_depth_at d e (t ∷ P) b is h =
    bounded (take_from (last_of t P)) b d e (front_of t P) (λ m whole p q at hp. (let g : depth q ≤ depth p = take_from_depth (last_of t P) p q at in omega arith)) is h

replace_depth : (d v e : Data) (P : Pointer) (b : ℕ) → after_replace d P v ≡ Some e → depth d ≤ b → length P + depth v ≤ b → depth e ≤ b
replace_depth d v e P b is h hv = bounded (λ c. Some v) b d e P (λ m whole p q at hp. (let same : v ≡ q = cc in let g : depth v ≡ depth q = ap depth same in omega arith)) is h

-- ---- a step

pub or_refused_ok : (kind : PatchErrorKind) (o : Option Data) (e : Data) → or_refused kind o ≡ Ok e → o ≡ Some e
or_refused_ok kind o e is = search rules

copied_depth : (d e : Data) (P : Pointer) (o : Option Data) (b : ℕ) → after_copy d P o ≡ Ok e → depth d ≤ b → reach_at P o ≤ b → depth e ≤ b
copied_depth d e P None b is h hr = cc
copied_depth d e P (Some v) b is h hr = add_depth d v e P b (or_refused_ok InvalidPointer (after_add d P v) e is) h hr

moved_depth : (d e : Data) (F P : Pointer) (o r : Option Data) (b : ℕ) → pointee d F ≡ o → after_remove d F ≡ r → after_move P o r ≡ Ok e → depth d ≤ b
    → (if nat_lt (length F) (length P) then reach_at P o else 0) ≤ b → depth e ≤ b
moved_depth d e F P (Some v) (Some m) b found took is h hr =
    let hm : depth m ≤ b = remove_depth_at d m F b took h in
    let hv : length F + depth v ≤ depth d = found_depth d v F found in
    add_depth m v e P b (or_refused_ok InvalidPointer (after_add m P v) e is) hm (grind (arith, nat_tests))
moved_depth d e F P None r b found took is h hr = cc
moved_depth d e F P (Some v) None b found took is h hr = cc

pub moves_on : (c : Bool) (r : Result Data PatchErrorKind) (kind : PatchErrorKind) (e : Data) → (if c then Err kind else r) ≡ Ok e → r ≡ Ok e
moves_on true r kind e is = cc
moves_on false r kind e is = is

pub tested_same : (d v e : Data) (o : Option Data) → after_test d v o ≡ Ok e → e ≡ d
tested_same d v e o is = search rules

stepped_depth : (d : Data) (op : Operation) (e : Data) (b : ℕ) → after_step d op ≡ Ok e → depth d ≤ b → reach_of d op ≤ b → depth e ≤ b
stepped_depth d (add P v) e b is h hr = add_depth d v e P b (or_refused_ok InvalidPointer (after_add d P v) e is) h hr
stepped_depth d (remove P) e b is h hr = remove_depth_at d e P b (or_refused_ok InvalidPointer (after_remove d P) e is) h
stepped_depth d (replace P v) e b is h hr = replace_depth d v e P b (or_refused_ok InvalidPointer (after_replace d P v) e is) h hr
stepped_depth d (move F P) e b is h hr =
    moved_depth d e F P (pointee d F) (after_remove d F) b refl refl (moves_on (begins F P) (after_move P (pointee d F) (after_remove d F)) CannotMoveInsideItself e is) h hr
stepped_depth d (copy F P) e b is h hr = copied_depth d e P (pointee d F) b is h hr
stepped_depth d (test P v) e b is h hr = let same : e ≡ d = tested_same d v e (pointee d P) is in rw same h

pub step_depth : (d : Data) (op : Operation) (e : Data) (b : ℕ) → IsDocument d → IsWholeOp op → Leaves d op e → depth d ≤ b → reach_of d op ≤ b → depth e ≤ b
step_depth d op e b hd hv leaves h hr = stepped_depth d op e b (leaves_stepped d op e hd hv leaves) h hr

-- ---- no less deep than the value reaches

change_least : (f : Data → Option Data) (n : ℕ) → ((p q : Data) → f p ≡ Some q → n ≤ depth q) → (d e : Data) (P : Pointer) → after_change f d P ≡ Some e → length P + n ≤ depth e
change_least f n least d e [] is = let h : n ≤ depth e = least d e is in omega arith
change_least f n least d e (t ∷ P) is =
    option_and_then_some _ (segment_of d t) e is (λ s named more.
    option_and_then_some _ (child s d) e more (λ c stands rest.
    option_map_some _ (after_change f c P) e rest (λ x inner whole.
    (let h : length P + n ≤ depth x = change_least f n least c x P inner in
    let g : depth x < depth (set_child s x d) = child_depth s (set_child s x d) x (child_set s d c x stands) in
    let same : depth (set_child s x d) ≡ depth e = ap depth whole in omega arith))))

insert_least : (i : ℕ) (v : Data) (ds : Items) → depth v ≤ items_depth (insert_item i v ds)
insert_least i v no_items = omega arith
insert_least zero v (item d ds) = omega arith
insert_least (suc i) v (item d ds) = let more : depth v ≤ items_depth (insert_item i v ds) = insert_least i v ds in omega arith

put_in_least : (v : Data) (t : List ℕ) (p q : Data) → put_in v t p ≡ Some q → suc (depth v) ≤ depth q
put_in_least v t (array ds) q is =
    option_map_some _ (slot_of t ds) q is (λ i at whole.
    (let g : depth v ≤ items_depth (insert_item i v ds) = insert_least i v ds in let same : suc (items_depth (insert_item i v ds)) ≡ depth q = ap depth whole in omega arith))
put_in_least v t (object ms) q is =
    let whole : object (put t v ms) ≡ q = cc in
    let g : depth v ≤ members_depth (put t v ms) = member_depth t v (put t v ms) (get_member-put t v ms) in
    let same : suc (members_depth (put t v ms)) ≡ depth q = ap depth whole in omega arith
put_in_least v t p q is = search rules

add_least : (d v e : Data) (P : Pointer) → after_add d P v ≡ Some e → length P + depth v ≤ depth e
add_least d v e [] is = let same : v ≡ e = cc in rw same (omega arith)
add_least d v e (t ∷ P) is =
    let h : length (front_of t P) + suc (depth v) ≤ depth e = change_least (put_in v (last_of t P)) (suc (depth v)) (λ p q at. put_in_least v (last_of t P) p q at) d e (front_of t P) is in
    let n : length (front_of t P) ≡ length P = length_front t P in omega arith

replace_least : (d v e : Data) (P : Pointer) → after_replace d P v ≡ Some e → length P + depth v ≤ depth e
replace_least d v e P is = change_least (λ c. Some v) (depth v) (λ p q at. (let whole : v ≡ q = cc in let same : depth v ≡ depth q = ap depth whole in omega arith)) d e P is

copied_least : (d e : Data) (P : Pointer) (o : Option Data) → after_copy d P o ≡ Ok e → reach_at P o ≤ depth e
copied_least d e P None is = cc
copied_least d e P (Some v) is = add_least d v e P (or_refused_ok InvalidPointer (after_add d P v) e is)

if_most : (c : Bool) (n m : ℕ) → n ≤ m → (if c then n else 0) ≤ m
if_most true n m h = h
if_most false n m h = omega arith

moved_least : (e : Data) (P : Pointer) (o r : Option Data) → after_move P o r ≡ Ok e → reach_at P o ≤ depth e
moved_least e P (Some v) (Some m) is = add_least m v e P (or_refused_ok InvalidPointer (after_add m P v) e is)
moved_least e P None r is = cc
moved_least e P (Some v) None is = cc

stepped_least : (d : Data) (op : Operation) (e : Data) → after_step d op ≡ Ok e → reach_of d op ≤ depth e
stepped_least d (add P v) e is = add_least d v e P (or_refused_ok InvalidPointer (after_add d P v) e is)
stepped_least d (remove P) e is = omega arith
stepped_least d (replace P v) e is = replace_least d v e P (or_refused_ok InvalidPointer (after_replace d P v) e is)
stepped_least d (move F P) e is =
    if_most (nat_lt (length F) (length P)) (reach_at P (pointee d F)) (depth e)
    (moved_least e P (pointee d F) (after_remove d F) (moves_on (begins F P) (after_move P (pointee d F) (after_remove d F)) CannotMoveInsideItself e is))
stepped_least d (copy F P) e is = copied_least d e P (pointee d F) is
stepped_least d (test P v) e is = omega arith

-- the document that op leaves is deeper than so many levels exactly where its value reaches deeper
pub deeper_exactly : (d : Data) (op : Operation) (e : Data) (b : ℕ) → IsDocument d → IsWholeOp op → Leaves d op e → depth d ≤ b → (b < depth e) ↔ (b < reach_of d op)
deeper_exactly d op e b hd hv leaves h =
    let least : reach_of d op ≤ depth e = stepped_least d op e (leaves_stepped d op e hd hv leaves) in (
      (λ deep. ⊎_elim (λ (lt : b < reach_of d op). lt) (λ (le : reach_of d op ≤ b). (let k : depth e ≤ b = step_depth d op e b hd hv leaves h le in absurd (omega arith))) (cases_lt b (reach_of d op))),
      (λ reach. omega arith),
    )
