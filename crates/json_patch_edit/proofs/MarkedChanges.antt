-- A change of a marked document, as it is seen, and what undoes it.
use Rattle.json_patch_edit.proofs.Common.{◌≡◌, ℕ, zero, suc, ◌≤◌, List, [], ◌∷◌, Bool, true, false, if◌then◌else◌, Option}
use Rattle.json_patch_edit.proofs.Common.{Some, None, option_map, option_and_then, option_and_then_some, refl, sym, ap, ◌∙◌}
use Rattle.json_patch_edit.proofs.Common.{subst, arith, rules, Data, array, object, Items, no_items, item, Members, put}
use Rattle.json_patch_edit.proofs.Common.{get_member, get_item, items_len, get_member-put, Segment, key, place, child}
use Rattle.json_patch_edit.proofs.Common.{segment_of, set_child, drop_child, insert_item, remove_item, set_item, slot_in}
use Rattle.json_patch_edit.proofs.Common.{slot_of, put_in, take_from, after_change, pointee, Pointer, place_of}
use Rattle.json_patch_edit.specs.declared.edits.Edit.{Edit}
use Rattle.json_patch_edit.specs.declared.edits.Edit.TheVariants.{Insert, Take, Remove, Swap, Undo, Clear}
use Rattle.json_patch_edit.specs.declared.edits.Found.{Found}
use Rattle.json_patch_edit.specs.declared.edits.Found.TheVariants.{Nothing, Former, Taken}
use Rattle.json_patch_edit.proofs.Locations.{option_map_some}
use Rattle.json_patch_document.proofs.Members.{child_set, get_insert}
use Rattle.json_patch_edit.proofs.Slots.{slot_aims, aims_within}
use Rattle.json_patch_edit.proofs.BlocksLeadBack.{set_altered}
use Rattle.json_patch_document.proofs.Children.{step_of_set, within_removed, insert_remove, remove_insert}
use Rattle.json_patch_edit.proofs.Marked.{live_within, child_seen, child_marked, segment_seen, set_seen, set_marked}
use Rattle.json_patch_edit.proofs.Marked.{mark_seen, mark_marked, drop_seen, drop_marked, seen_put, put_marked, seen_insert}
use Rattle.json_patch_edit.proofs.Marked.{insert_items_marked, put_back, without_put, pop_push}
use Rattle.json_patch_edit.specs.Marked.{is_mark, shown, seen, seen_items, seen_members, IsMarked, IsSeen, IsValue}
use Rattle.json_patch_edit.specs.Marked.{push_item, mark_child, at_shown, insert_marked, take_marked, swap_marked, at_child}
use Rattle.json_patch_edit.specs.Marked.{undo_slot, Corresponds}
use Rattle.json_patch_edit.specs.Exchange.{made, remove_marked, undone, clear_in, Finds}
use Rattle.json_patch_edit.specs.SeenEdits.{Suits, IsReversible, seen_made}

-- ---- results that correspond

corr_and_then : {A : Type 0} (R : Data → Data → Type 0) (o : Option A) (F G : A → Option Data) → ((a : A) → o ≡ Some a → Corresponds R (F a) (G a)) → Corresponds R (option_and_then F o) (option_and_then G o)
corr_and_then R None F G h = tt
corr_and_then R (Some a) F G h = h a refl

corr_map : {A : Type 0} (R : Data → Data → Type 0) (o : Option A) (F G : A → Data) → ((a : A) → o ≡ Some a → R (F a) (G a)) → Corresponds R (option_map F o) (option_map G o)
corr_map R None F G h = tt
corr_map R (Some a) F G h = h a refl

corr_over : {A B : Type 0} (R : Data → Data → Type 0) (x : A → B) (o : Option A) (F : A → Data) (G : B → Data) → ((a : A) → o ≡ Some a → R (F a) (G (x a))) → Corresponds R (option_map F o) (option_map G (option_map x o))
corr_over R x None F G h = tt
corr_over R x (Some a) F G h = h a refl

corr_lift : (R : Data → Data → Type 0) (o p : Option Data) (F G : Data → Data) → Corresponds R o p → ((q e : Data) → R q e → R (F q) (G e)) → Corresponds R (option_map F o) (option_map G p)
corr_lift R None None F G h lift = tt
corr_lift R (Some q) (Some e) F G h lift = lift q e h
corr_lift R o p F G h lift = absurd h

pub corr_some : (R : Data → Data → Type 0) (o p : Option Data) (q : Data) → Corresponds R o p → o ≡ Some q → (e : Data) × (p ≡ Some e) × R q e
corr_some R None p q h is = cc
corr_some R (Some r) None q h is = absurd h
corr_some R (Some r) (Some e) q h is = let same : r ≡ q = cc in (e, refl, subst (λ x. R x e) same h)

pub corr_none : (R : Data → Data → Type 0) (o p : Option Data) → Corresponds R o p → o ≡ None → p ≡ None
corr_none R None None h is = refl
corr_none R (Some q) p h is = cc
corr_none R None (Some e) h is = absurd h

-- ---- an edit of the container

pub seen_as : (q e : Data) → IsMarked q → is_mark q ≡ false → seen q ≡ e → IsSeen q e
seen_as q e h at is = record { marked = h; stands = at; is = is }

pub no_child : (c : Data) (t : List ℕ) → is_mark c ≡ true → segment_of c t ≡ None
no_child c t at = search rules

pub stays_set : (s : Segment) (v p : Data) → is_mark (set_child s v p) ≡ is_mark p
stays_set s v p = search rules

stays_drop : (s : Segment) (p : Data) → is_mark (drop_child s p) ≡ is_mark p
stays_drop s p = search rules

stays_mark : (s : Segment) (m p : Data) → is_mark (mark_child m s p) ≡ is_mark p
stays_mark s m p = search rules

at_shown_seen : (h k : Segment → Data → Data) (t : List ℕ) (p : Data) → IsMarked p → ((s : Segment) (c : Data) → shown (child s p) ≡ Some c → IsSeen (h s p) (k s (seen p)))
    → Corresponds IsSeen (at_shown h t p) (option_and_then (λ s. option_map (λ c. k s (seen p)) (child s (seen p))) (segment_of (seen p) t))
at_shown_seen h k t p hp each =
    rw segment_seen (corr_and_then IsSeen (segment_of p t) _ _ (λ s named. rw (child_seen s p hp) (corr_over IsSeen seen (shown (child s p)) (λ c. h s p) (λ c. k s (seen p)) (each s))))

slot_within : (t : List ℕ) (ds : Items) (i : ℕ) → slot_of t ds ≡ Some i → i ≤ items_len ds
slot_within t ds i is = aims_within t ds i (slot_aims t ds i is)

pub insert_seen : (v : Data) (t : List ℕ) (p : Data) → IsMarked p → IsValue v → Corresponds IsSeen (insert_marked v t p) (put_in (seen v) t (seen p))
insert_seen v t (object ms) h hv = seen_as (object (put t v ms)) (object (put t (seen v) (seen_members ms))) (put_marked t v ms h hv.0) refl (rw (seen_put t v ms h, hv.1) refl)
insert_seen v t (array ds) h hv =
    corr_map IsSeen (slot_in t (items_len (seen_items ds))) (λ i. array (insert_item i v ds)) (λ i. array (insert_item i (seen v) (seen_items ds)))
    (λ i is. (let le = slot_within t (seen_items ds) i is in seen_as (array (insert_item i v ds)) (array (insert_item i (seen v) (seen_items ds))) (insert_items_marked i v ds h hv.0 hv.1 le) refl (ap array (seen_insert i v ds hv.1 le))))
insert_seen v t p h hv = tt

pub take_seen : (m : Data) (t : List ℕ) (p : Data) → IsValue p → IsMarked m → is_mark m ≡ true → Corresponds IsSeen (take_marked m t p) (take_from t (seen p))
take_seen m t p hp hm at =
    at_shown_seen (mark_child m) drop_child t p hp.0 (λ s c is. seen_as (mark_child m s p) (drop_child s (seen p)) (mark_marked s m p hp.0 hm at) (stays_mark s m p ∙ hp.1) (mark_seen s m p c hp.0 at is))

some_map : (o : Option Data) (x : Data) → option_map (λ c. x) o ≡ option_and_then (λ c. Some x) o
some_map o x = search rules

-- a swap, as a change of the container
pub swapped_at : (v : Data) (d : Data) (t : List ℕ) → option_and_then (λ s. option_map (λ c. set_child s v d) (child s d)) (segment_of d t) ≡ after_change (λ c. Some v) d (t ∷ [])
swapped_at v d t = λ i. option_and_then (λ s. some_map (child s d) (set_child s v d) i) (segment_of d t)

pub swap_seen : (v : Data) (t : List ℕ) (p : Data) → IsValue p → IsValue v → Corresponds IsSeen (swap_marked v t p) (after_change (λ c. Some (seen v)) (seen p) (t ∷ []))
swap_seen v t p hp hv =
    subst (Corresponds IsSeen (swap_marked v t p)) (swapped_at (seen v) (seen p) t)
    (at_shown_seen (λ s d. set_child s v d) (λ s d. set_child s (seen v) d) t p hp.0 (λ s c is. seen_as (set_child s v p) (set_child s (seen v) (seen p)) (set_marked s v p c hp.0 hv.0 hv.1 is) (stays_set s v p ∙ hp.1) (set_seen s v p c hp.0 hv.1 is)))

pub remove_seen : (t : List ℕ) (p : Data) → IsValue p → Corresponds IsSeen (remove_marked t p) (take_from t (seen p))
remove_seen t p hp = at_shown_seen drop_child drop_child t p hp.0 (λ s c is. seen_as (drop_child s p) (drop_child s (seen p)) (drop_marked s p hp.0) (stays_drop s p ∙ hp.1) (drop_seen s p c hp.0 is))

-- what is seen of an operation's edit is the edit of what is seen
pub made_seen : (edit : Edit) (v : Data) (t : List ℕ) (p : Data) → Suits edit v → IsValue p → Corresponds IsSeen (made edit v t p) (seen_made edit (seen v) t (seen p))
made_seen Insert v t p hv hp = insert_seen v t p hp.0 hv
made_seen Take v t p hv hp = take_seen v t p hp hv.0 hv.1
made_seen Remove v t p hv hp = remove_seen t p hp
made_seen Swap v t p hv hp = swap_seen v t p hp hv
made_seen edit v t p hv hp = absurd hv

insert_mark : (v : Data) (t : List ℕ) (c : Data) → is_mark c ≡ true → insert_marked v t c ≡ None
insert_mark v t c at = search rules

clear_mark : (t : List ℕ) (c : Data) → is_mark c ≡ true → clear_in t c ≡ None
clear_mark t c at = search rules

undone_mark : (found : Found) (v : Data) (t : List ℕ) (c : Data) → is_mark c ≡ true → undone found v t c ≡ None
undone_mark found v t c at = search rules

-- no edit is made of a mark
pub made_mark : (edit : Edit) (v : Data) (t : List ℕ) (c : Data) → is_mark c ≡ true → made edit v t c ≡ None
made_mark Insert v t c at = insert_mark v t c at
made_mark (Undo found) v t c at = undone_mark found v t c at
made_mark Clear v t c at = clear_mark t c at
made_mark edit v t c at = rw (no_child c t at) refl

-- ---- at the end of a way down

-- f of a marked document is seen as g, and f refuses a mark
pub record Mirrors (f g : Data → Option Data) : Type 0 where
  pub seen_as : (c : Data) → IsValue c → Corresponds IsSeen (f c) (g (seen c))
  pub refuses : (c : Data) → is_mark c ≡ true → f c ≡ None

pub change_mark : (f : Data → Option Data) (c : Data) (P : Pointer) → f c ≡ None → is_mark c ≡ true → after_change f c P ≡ None
change_mark f c [] none at = none
change_mark f c (t ∷ P) none at = rw (no_child c t at) refl

corr_child : (o : Option Data) (F G : Data → Option Data) → ((c : Data) → o ≡ Some c → is_mark c ≡ true → F c ≡ None) → ((c : Data) → o ≡ Some c → is_mark c ≡ false → Corresponds IsSeen (F c) (G (seen c)))
    → Corresponds IsSeen (option_and_then F o) (option_and_then G (option_map seen (shown o)))
corr_child None F G gone there = tt
corr_child (Some c) F G gone there = by_mark (is_mark c) refl
  where
    by_mark : (b : Bool) → is_mark c ≡ b → Corresponds IsSeen (F c) (option_and_then G (option_map seen (if b then None else Some c)))
    by_mark true at = rw (gone c refl at) tt
    by_mark false at = there c refl at

pub shown_is : (o : Option Data) (c : Data) → o ≡ Some c → is_mark c ≡ false → shown o ≡ Some c
shown_is o c is at = rw (is, at) refl

pub change_seen : (f g : Data → Option Data) (p : Data) (P : Pointer) → Mirrors f g → IsValue p → Corresponds IsSeen (after_change f p P) (after_change g (seen p) P)
change_seen f g p [] mirrors hp = mirrors.seen_as p hp
change_seen f g p (t ∷ P) mirrors hp =
    rw segment_seen (corr_and_then IsSeen (segment_of p t) _ _ (λ s named.
    rw (child_seen s p hp.0) (corr_child (child s p) (λ c. option_map (λ e. set_child s e p) (after_change f c P)) (λ c. option_map (λ e. set_child s e (seen p)) (after_change g c P))
    (λ c is at. ap (option_map (λ e. set_child s e p)) (change_mark f c P (mirrors.refuses c at) at))
    (λ c is at. corr_lift IsSeen (after_change f c P) (after_change g (seen c) P) (λ e. set_child s e p) (λ e. set_child s e (seen p)) (change_seen f g c P mirrors (child_marked s p c hp.0 is, at))
    (λ q e r. seen_as (set_child s q p) (set_child s e (seen p)) (set_marked s q p c hp.0 r.marked r.stands (shown_is (child s p) c is at)) (stays_set s q p ∙ hp.1)
    (set_seen s q p c hp.0 r.stands (shown_is (child s p) c is at) ∙ ap (λ x. set_child s x (seen p)) r.is))))))

-- ---- what stands at a pointer

found_mark : (c : Data) (P : Pointer) → is_mark c ≡ true → None ≡ option_map seen (shown (pointee c P))
found_mark c [] at = rw at refl
found_mark c (t ∷ P) at = rw (no_child c t at) refl

found_step : (o : Option Segment) (F G : Segment → Option Data) → ((s : Segment) → o ≡ Some s → F s ≡ option_map seen (shown (G s))) → option_and_then F o ≡ option_map seen (shown (option_and_then G o))
found_step None F G h = refl
found_step (Some s) F G h = h s refl

found_on : (o : Option Data) (P : Pointer) → ((c : Data) → o ≡ Some c → is_mark c ≡ false → pointee (seen c) P ≡ option_map seen (shown (pointee c P)))
    → option_and_then (λ c. pointee c P) (option_map seen (shown o)) ≡ option_map seen (shown (option_and_then (λ c. pointee c P) o))
found_on None P more = refl
found_on (Some c) P more = by_mark (is_mark c) refl
  where
    by_mark : (b : Bool) → is_mark c ≡ b → option_and_then (λ x. pointee x P) (option_map seen (if b then None else Some c)) ≡ option_map seen (shown (pointee c P))
    by_mark true at = found_mark c P at
    by_mark false at = more c refl at

pub found_seen : (p : Data) (P : Pointer) → IsValue p → pointee (seen p) P ≡ option_map seen (shown (pointee p P))
found_seen p [] hp = rw hp.1 refl
found_seen p (t ∷ P) hp =
    rw segment_seen (found_step (segment_of p t) _ _ (λ s named. rw (child_seen s p hp.0) (found_on (child s p) P (λ c is at. found_seen c P (child_marked s p c hp.0 is, at)))))

-- ---- what undoes a change

set_item_back : (i : ℕ) (b c : Data) (ds : Items) → get_item i ds ≡ Some c → set_item i c (set_item i b ds) ≡ ds
set_item_back i b c no_items is = refl
set_item_back zero b c (item d ds) is = let e : c ≡ d = cc in rw e refl
set_item_back (suc i) b c (item d ds) is = ap (item d) (set_item_back i b c ds is)

pub set_child_back : (s : Segment) (b c d : Data) → IsMarked d → child s d ≡ Some c → set_child s c (set_child s b d) ≡ d
set_child_back s b c d h is = search (rules, put_back, set_item_back)

pub change_back : (f g : Data → Option Data) (p : Data) (P : Pointer) (q : Data) → ((c e : Data) → IsMarked c → pointee p P ≡ Some c → f c ≡ Some e → g e ≡ Some c) → IsMarked p → after_change f p P ≡ Some q → after_change g q P ≡ Some p
change_back f g p [] q back hp is = back p q hp refl is
change_back f g p (t ∷ P) q back hp is =
    option_and_then_some _ (segment_of p t) q is (λ s named more.
    option_and_then_some _ (child s p) q more (λ c stands rest.
    option_map_some _ (after_change f c P) q rest (λ b inner whole.
    (let below : after_change g b P ≡ Some c = change_back f g c P b (λ x y hx at. back x y hx (rw (named, stands) at)) (child_marked s p c hp stands) inner in
    subst (λ x. after_change g x (t ∷ P) ≡ Some p) whole (set_altered g p t P s c b named stands below ∙ ap Some (set_child_back s b c p hp stands))))))

-- a value in place of another is undone by that
swap_back : (s : Segment) (t : List ℕ) (v w p : Data) → IsMarked p → segment_of p t ≡ Some s → child s p ≡ Some w → at_child (λ r d. set_child r w d) t (set_child s v p) ≡ Some p
swap_back s t v w p hp named is = rw (step_of_set s p v t, named, child_set s p w v is) (ap Some (set_child_back s v w p hp is))

pub shown_there : (h : Segment → Data → Data) (t : List ℕ) (p q : Data) (T : Type 0) → at_shown h t p ≡ Some q → ((s : Segment) (c : Data) → segment_of p t ≡ Some s → shown (child s p) ≡ Some c → h s p ≡ q → T) → T
shown_there h t p q T is k =
    option_and_then_some _ (segment_of p t) q is (λ s named more.
    option_map_some _ (shown (child s p)) q more (λ c stands whole. k s c named stands whole))

pub stands_at : (p : Data) (t : List ℕ) (s : Segment) (w : Data) → segment_of p t ≡ Some s → pointee p (t ∷ []) ≡ Some w → child s p ≡ Some w
stands_at p t s w named found = search rules

pub none_at : (ms : Members) (t : List ℕ) → pointee (object ms) (t ∷ []) ≡ None → get_member t ms ≡ None
none_at ms t none = search rules

len_inserted : (i : ℕ) (v : Data) (ds : Items) → i ≤ items_len ds → items_len (insert_item i v ds) ≡ suc (items_len ds)
len_inserted zero v (item d ds) le = refl
len_inserted (suc i) v (item d ds) le = ap suc (len_inserted i v ds (omega arith))
len_inserted i v ds le = search rules

live_inserted : (i : ℕ) (v : Data) (ds : Items) → is_mark v ≡ false → i ≤ items_len (seen_items ds) → items_len (seen_items (insert_item i v ds)) ≡ suc (items_len (seen_items ds))
live_inserted i v ds hv le = ap items_len (seen_insert i v ds hv le) ∙ len_inserted i (seen v) (seen_items ds) le

-- an element that was put in goes, by the token that put it there
insert_item_back : (v w : Data) (t : List ℕ) (ds : Items) (q : Data) → is_mark v ≡ false → insert_marked v t (array ds) ≡ Some q → undone Nothing w t q ≡ Some (array ds)
insert_item_back v w t ds q hv is =
    option_map_some _ (slot_in t (items_len (seen_items ds))) q is (λ i slot whole.
    (let le : i ≤ items_len (seen_items ds) = slot_within t (seen_items ds) i slot in
    let within : i ≤ items_len ds = omega (arith, live_within ds) in
    subst (λ x. undone Nothing w t x ≡ Some (array ds)) whole (rw (live_inserted i v ds hv le, slot) (ap (λ x. Some (array x)) (remove_insert i v ds within)))))

insert_member_back : (v : Data) (t : List ℕ) (ms : Members) → is_mark v ≡ false → get_member t ms ≡ None → remove_marked t (object (put t v ms)) ≡ Some (object ms)
insert_member_back v t ms hv none = rw (get_member-put, hv) (ap (λ x. Some (object x)) (without_put t v ms none))

place_named : (t : List ℕ) (ds : Items) (i : ℕ) → segment_of (array ds) t ≡ Some (place i) → place_of t ≡ Some i
place_named t ds i named = option_map_some place (place_of t) (place i) named (λ j is same. cc)

get_pushed : (i : ℕ) (m : Data) (ds : Items) → i ≤ items_len ds → (c : Data) × (get_item i (push_item m ds) ≡ Some c)
get_pushed zero m no_items le = (m, refl)
get_pushed (suc i) m no_items le = absurd (omega arith)
get_pushed zero m (item d ds) le = (d, refl)
get_pushed (suc i) m (item d ds) le = get_pushed i m ds (omega arith)

-- an element that was taken is put back, and the mark goes
take_back : (s : Segment) (m w : Data) (t : List ℕ) (p : Data) → IsMarked p → segment_of p t ≡ Some s → child s p ≡ Some w → undone Taken w t (mark_child m s p) ≡ Some p
take_back (key k) m w t (object ms) hp named is = swap_back (key k) t m w (object ms) hp named is
take_back (place i) m w t (array ds) hp named is =
    let last : (c : Data) × (get_item i (push_item m (remove_item i ds)) ≡ Some c) = get_pushed i m (remove_item i ds) (within_removed i w ds is) in
    rw (place_named t ds i named, last.1, pop_push m (remove_item i ds)) (ap (λ x. Some (array x)) (insert_remove i w ds is))
take_back s m w t p hp named is = search rules

-- by what an edit found it is undone, exactly
pub made_back : (edit : Edit) (v : Data) (t : List ℕ) (p q : Data) (found : Found) (w : Data) → IsReversible edit v → IsMarked p → Finds edit t p found w → made edit v t p ≡ Some q → made (Undo found) w t q ≡ Some p
made_back Insert v t (array ds) q Nothing w hv hp finds is = insert_item_back v w t ds q hv is
made_back Insert v t (object ms) q Nothing w hv hp finds is =
    let e : object (put t v ms) ≡ q = cc in subst (λ x. undone Nothing w t x ≡ Some (object ms)) e (insert_member_back v t ms hv (none_at ms t finds))
made_back Insert v t (object ms) q Former w hv hp finds is =
    let e : object (put t v ms) ≡ q = cc in subst (λ x. undone Former w t x ≡ Some (object ms)) e (swap_back (key t) t v w (object ms) hp refl (stands_at (object ms) t (key t) w refl finds))
made_back Take v t p q Taken w hv hp finds is =
    shown_there (mark_child v) t p q _ is (λ s c named stands whole. subst (λ x. undone Taken w t x ≡ Some p) whole (take_back s v w t p hp named (stands_at p t s w named finds)))
made_back Swap v t p q Former w hv hp finds is =
    shown_there (λ s d. set_child s v d) t p q _ is (λ s c named stands whole. subst (λ x. undone Former w t x ≡ Some p) whole (swap_back s t v w p hp named (stands_at p t s w named finds)))
made_back edit v t p q found w hv hp finds is = search rules

-- ---- what undoing finds

inserted_at : (v x : Data) (t : List ℕ) (ms : Members) → pointee (object (put t v ms)) (t ∷ []) ≡ Some x → x ≡ v
inserted_at v x t ms is = let here : get_member t (put t v ms) ≡ Some v = get_member-put t v ms in let there : get_member t (put t v ms) ≡ Some x = stands_at (object (put t v ms)) t (key t) x refl is in cc

inserted_item : (v x : Data) (t : List ℕ) (ds : Items) (q : Data) (f : Found) → is_mark v ≡ false → insert_marked v t (array ds) ≡ Some q → Finds (Undo Nothing) t q f x → x ≡ v
inserted_item v x t ds q Taken hv is finds =
    option_map_some _ (slot_in t (items_len (seen_items ds))) q is (λ i slot whole.
    (let le : i ≤ items_len (seen_items ds) = slot_within t (seen_items ds) i slot in
    let within : i ≤ items_len ds = omega (arith, live_within ds) in
    let at : option_and_then (λ j. get_item j (insert_item i v ds)) (undo_slot t (items_len (seen_items (insert_item i v ds)))) ≡ Some x = subst (λ y. Finds (Undo Nothing) t y Taken x) (sym whole) finds in
    let there : Some v ≡ Some x = sym (get_insert i v ds within) ∙ rw (live_inserted i v ds hv le, slot) at at in cc))
inserted_item v x t ds q f hv is finds = search rules

-- what was put in comes out again
pub put_comes_back : (v : Data) (t : List ℕ) (p q : Data) (found f : Found) (w x : Data) → is_mark v ≡ false → Finds Insert t p found w → made Insert v t p ≡ Some q → Finds (Undo found) t q f x → x ≡ v
put_comes_back v t (array ds) q Nothing f w x hv finds is out = inserted_item v x t ds q f hv is out
put_comes_back v t (object ms) q Nothing Taken w x hv finds is out =
    let e : object (put t v ms) ≡ q = cc in inserted_at v x t ms (subst (λ y. Finds (Undo Nothing) t y Taken x) (sym e) out)
put_comes_back v t (object ms) q Former Former w x hv finds is out =
    let e : object (put t v ms) ≡ q = cc in inserted_at v x t ms (subst (λ y. Finds (Undo Former) t y Former x) (sym e) out)
put_comes_back v t p q found f w x hv finds is out = search rules
