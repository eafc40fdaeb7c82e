-- Changes of a marked document that aren't seen.
use Rattle.json_patch.proofs.Common.{◌≡◌, ℕ, zero, suc, List, [], ◌∷◌, Bool, true, false, if◌then◌else◌, Option, Some}
use Rattle.json_patch.proofs.Common.{None, option_and_then_some, Ordering, Less, Equal, Greater, match_ordering}
use Rattle.json_patch.proofs.Common.{slice_cmp, nat_cmp, refl, sym, ap, ◌∙◌, subst, rules, Data, array, object, Items}
use Rattle.json_patch.proofs.Common.{no_items, item, Members, no_members, member, put, without, get_member, get_item}
use Rattle.json_patch.proofs.Common.{Segment, child, segment_of, set_child, set_item, after_change, Pointer}
use Rattle.json_patch.proofs.Common.{IsBelowMembers}
use Rattle.json_patch_edit.specs.declared.edits.Edit.{Edit}
use Rattle.json_patch_edit.specs.declared.edits.Edit.TheVariants.{Clear, Sweep}
use Rattle.json_patch_edit.proofs.Locations.{option_map_some}
use Rattle.json_patch_document.proofs.Members.{below_absent, below_more}
use Rattle.json_patch_edit.proofs.Marked.{child_marked, shown_some, set_marked, set_seen, seen_push, seen_again, seen_marked}
use Rattle.json_patch_edit.proofs.Marked.{mark_of_seen, pop_items_marked, without_marked}
use Rattle.json_patch_edit.proofs.MarkedChanges.{seen_as, stays_set, shown_is, shown_there, change_mark}
use Rattle.json_patch_edit.specs.Marked.{is_mark, shown, member_unless, seen, seen_items, seen_members, IsMarked}
use Rattle.json_patch_edit.specs.Marked.{AreMarkedMembers, IsSeen, IsValue, push_item, pop_item}
use Rattle.json_patch_edit.specs.Exchange.{made, clear_in, if_mark, last_item, sweep_child, sweep_in}
use Rattle.json_patch_edit.specs.SeenEdits.{IsUnseen}

-- ---- a child in its own place

put_same_at : (o : Ordering) (k l : List ℕ) (c d : Data) (ms : Members) → slice_cmp nat_cmp k l ≡ o → IsBelowMembers l ms → match_ordering o (get_member k ms) (Some d) (get_member k ms) ≡ Some c → (get_member k ms ≡ Some c → put k c ms ≡ ms)
    → match_ordering o (member k c (member l d ms)) (member l c ms) (member l d (put k c ms)) ≡ member l d ms
put_same_at Less k l c d ms is h found more = let none : get_member k ms ≡ None = below_absent k ms (below_more k l ms is h) in cc
put_same_at Equal k l c d ms is h found more = let e : c ≡ d = cc in rw e refl
put_same_at Greater k l c d ms is h found more = ap (member l d) (more found)

put_same : (k : List ℕ) (c : Data) (ms : Members) → AreMarkedMembers ms → get_member k ms ≡ Some c → put k c ms ≡ ms
put_same k c no_members h is = cc
put_same k c (member l d ms) h is = put_same_at (slice_cmp nat_cmp k l) k l c d ms refl h.0 is (put_same k c ms h.2)

set_same : (i : ℕ) (c : Data) (ds : Items) → get_item i ds ≡ Some c → set_item i c ds ≡ ds
set_same i c no_items is = refl
set_same zero c (item d ds) is = let e : c ≡ d = cc in rw e refl
set_same (suc i) c (item d ds) is = ap (item d) (set_same i c ds is)

set_child_same : (s : Segment) (c d : Data) → IsMarked d → child s d ≡ Some c → set_child s c d ≡ d
set_child_same s c d h is = search (rules, put_same, set_same)

-- another child that is seen as that one
set_unseen : (s : Segment) (p c e : Data) → IsValue p → shown (child s p) ≡ Some c → IsSeen e (seen c) → IsSeen (set_child s e p) (seen p)
set_unseen s p c e hp there b =
    let at = shown_some (child s p) c there in
    seen_as (set_child s e p) (seen p) (set_marked s e p c hp.0 b.marked b.stands there) (stays_set s e p ∙ hp.1)
    (set_seen s e p c hp.0 b.stands there ∙ ap (λ x. set_child s x (seen p)) b.is ∙ sym (set_seen s c p c hp.0 at.1 there) ∙ ap seen (set_child_same s c p hp.0 at.0))

-- ---- at the end of a way down

changed_value : (f : Data → Option Data) (c e : Data) (P : Pointer) (b : Bool) → (is_mark c ≡ true → f c ≡ None) → is_mark c ≡ b → after_change f c P ≡ Some e → is_mark c ≡ false
changed_value f c e P true refuses at is = let none : after_change f c P ≡ None = change_mark f c P (refuses at) at in cc
changed_value f c e P false refuses at is = at

-- a change that isn't seen where it is made isn't seen
pub change_unseen : (f : Data → Option Data) (p : Data) (P : Pointer) (q : Data) → ((c e : Data) → IsValue c → f c ≡ Some e → IsSeen e (seen c)) → ((c : Data) → is_mark c ≡ true → f c ≡ None) → IsValue p → after_change f p P ≡ Some q → IsSeen q (seen p)
change_unseen f p [] q each refuses hp is = each p q hp is
change_unseen f p (t ∷ P) q each refuses hp is =
    option_and_then_some _ (segment_of p t) q is (λ s named more.
    option_and_then_some _ (child s p) q more (λ c stands rest.
    option_map_some _ (after_change f c P) q rest (λ e inner whole.
    (let at : is_mark c ≡ false = changed_value f c e P (is_mark c) (refuses c) refl inner in
    let b : IsSeen e (seen c) = change_unseen f c P e each refuses (child_marked s p c hp.0 stands, at) inner in
    subst (λ x. IsSeen x (seen p)) whole (set_unseen s p c e hp (shown_is (child s p) c stands at) b)))))

-- ---- a mark that goes

seen_without_at : (o : Ordering) (k l : List ℕ) (c d : Data) (ms : Members) → is_mark c ≡ true → match_ordering o (get_member k ms) (Some d) (get_member k ms) ≡ Some c → (get_member k ms ≡ Some c → seen_members (without k ms) ≡ seen_members ms)
    → seen_members (match_ordering o (member l d (without k ms)) ms (member l d (without k ms))) ≡ member_unless (is_mark d) l (seen d) (seen_members ms)
seen_without_at Equal k l c d ms at found more = let e : d ≡ c = cc in rw (ap is_mark e ∙ at) refl
seen_without_at o k l c d ms at found more = ap (member_unless (is_mark d) l (seen d)) (more found)

without_mark : (k : List ℕ) (c : Data) (ms : Members) → get_member k ms ≡ Some c → is_mark c ≡ true → seen_members (without k ms) ≡ seen_members ms
without_mark k c no_members is at = refl
without_mark k c (member l d ms) is at = seen_without_at (slice_cmp nat_cmp k l) k l c d ms at is (λ more. without_mark k c ms more at)

pub push_last : (c : Data) (ds : Items) → last_item ds ≡ Some c → push_item c (pop_item ds) ≡ ds
push_last c no_items is = cc
push_last c (item d no_items) is = let e : c ≡ d = cc in rw e refl
push_last c (item d (item e ds)) is = ap (item d) (push_last c (item e ds) is)

without_last : (c : Data) (ds : Items) → last_item ds ≡ Some c → is_mark c ≡ true → seen_items (pop_item ds) ≡ seen_items ds
without_last c ds is at = sym (seen_push c (pop_item ds) at) ∙ ap seen_items (push_last c ds is)

if_it_is : {T : Type 0} (b : Bool) (d q : Data) → (if b then Some d else None) ≡ Some q → (b ≡ true → d ≡ q → T) → T
if_it_is true d q is k = let same : d ≡ q = cc in k refl same
if_it_is false d q is k = cc

pub if_marked : {T : Type 0} (o : Option Data) (d q : Data) → if_mark o d ≡ Some q → ((c : Data) → o ≡ Some c → is_mark c ≡ true → d ≡ q → T) → T
if_marked None d q is k = cc
if_marked (Some c) d q is k = if_it_is (is_mark c) d q is (k c refl)

clear_unseen : (t : List ℕ) (p q : Data) → IsValue p → clear_in t p ≡ Some q → IsSeen q (seen p)
clear_unseen t (array ds) q hp is =
    if_marked (last_item ds) (array (pop_item ds)) q is (λ c last at e.
    subst (λ x. IsSeen x (array (seen_items ds))) e (seen_as (array (pop_item ds)) (array (seen_items ds)) (pop_items_marked ds hp.0) refl (ap array (without_last c ds last at))))
clear_unseen t (object ms) q hp is =
    if_marked (get_member t ms) (object (without t ms)) q is (λ c stands at e.
    subst (λ x. IsSeen x (object (seen_members ms))) e (seen_as (object (without t ms)) (object (seen_members ms)) (without_marked t ms hp.0) refl (ap object (without_mark t c ms stands at))))
clear_unseen t p q hp is = search rules

-- ---- all marks that go

-- what is seen of a value is seen as it
pub swept : (c : Data) → IsValue c → IsSeen (seen c) (seen c)
swept c hc = seen_as (seen c) (seen c) (seen_marked c hc.0) (mark_of_seen c ∙ hc.1) (seen_again c)

pub sweeps_there : (s : Segment) (c p : Data) → child s p ≡ Some c → sweep_child s p ≡ set_child s (seen c) p
sweeps_there s c p is = rw is refl

sweep_unseen : (t : List ℕ) (p q : Data) → IsValue p → sweep_in t p ≡ Some q → IsSeen q (seen p)
sweep_unseen t p q hp is =
    shown_there sweep_child t p q _ is (λ s c named there whole.
    (let at = shown_some (child s p) c there in
    subst (λ x. IsSeen x (seen p)) (sym (sweeps_there s c p at.0) ∙ whole) (set_unseen s p c (seen c) hp there (swept c (child_marked s p c hp.0 at.0, at.1)))))

pub made_unseen : (edit : Edit) (v : Data) (t : List ℕ) (p q : Data) → IsUnseen edit → IsValue p → made edit v t p ≡ Some q → IsSeen q (seen p)
made_unseen Clear v t p q he hp is = clear_unseen t p q hp is
made_unseen Sweep v t p q he hp is = sweep_unseen t p q hp is
made_unseen edit v t p q he hp is = absurd he
