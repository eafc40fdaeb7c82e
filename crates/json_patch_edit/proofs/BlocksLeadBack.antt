-- Each operation's block gives back the document before it.
use Rattle.json_patch_edit.proofs.Common.{◌≡◌, ℕ, ◌≤◌, List, [], ◌∷◌, inl, Some, None, option_and_then, refl, sym, ap, ◌∙◌, rules, option_map, Data, array, object, Items, Members, put, get_member, get_member-put, place_of, IsDocument, AreMembers, Segment, key, place, child, Names, segment_of, set_child, drop_child, insert_item, remove_item, pointee, put_in, take_from, ◌++◌, Bool, bytes_eq, if◌then◌else◌, Option, Ok, subst, option_and_then_some, bytes_eq-Decides, Pointer, next_token, decimal_token, Aims, InvalidPointer, slot_of, after_change, after_add, after_remove, after_replace, front_of, last_of, or_refused, after_step, settled_token, undo_at, undo_in, undo_add, place_is_token, next_is_no_place, items_len}
use Rattle.json_patch_edit.proofs.Changes.{TakesIn, take_from_takes, drop_document}
use Rattle.json_patch_document.proofs.Members.{get_insert, child_document, child_set, set_document}
use Rattle.json_patch_edit.proofs.Locations.{option_map_some, split_whole, resolves_found, found_append}
use Rattle.json_patch_edit.proofs.Alterations.{IsAltered, altered_is, altered_append}
use Rattle.json_patch_edit.proofs.Slots.{slot_some, put_in_puts, slot_aims, aims_within}
use Rattle.json_patch_edit.proofs.StepOutcomes.{front_append, last_append}
use Rattle.json_patch_document.proofs.Children.{set_back, step_of_set, without_put, put_without, remove_insert, insert_remove, within_removed}

-- ---- at the parent

pub take_item : (u : List ℕ) (i : ℕ) (v : Data) (ds : Items) → place_of u ≡ Some i → i ≤ items_len ds → take_from u (array (insert_item i v ds)) ≡ Some (array ds)
take_item u i v ds is le = rw (is, get_insert i v ds le) (ap (λ x. Some (array x)) (remove_insert i v ds le))

pub take_member : (k : List ℕ) (v : Data) (ms : Members) → AreMembers ms → IsDocument v → get_member k ms ≡ None → take_from k (object (put k v ms)) ≡ Some (object ms)
take_member k v ms h hv is = rw (get_member-put k v ms) (ap Some (without_put k v ms h hv is))

-- what stands at t
pub stands_one : (p : Data) (t : List ℕ) (s : Segment) (w : Data) → Names p t s → pointee p (t ∷ []) ≡ Some w → child s p ≡ Some w
stands_one p t s w names is = search rules

pub put_taken : (t : List ℕ) (p w : Data) (s : Segment) → IsDocument p → Names p t s → child s p ≡ Some w → put_in w t (drop_child s p) ≡ Some p
put_taken t (array ds) w (place i) h names is =
    ap (option_map (λ j. array (insert_item j w (remove_item i ds)))) (slot_some t (remove_item i ds) i (inl (names, within_removed i w ds is)))
    ∙ ap (λ x. Some (array x)) (insert_remove i w ds is)
put_taken t p w s h names is = search (rules, put_without)

-- ---- pointers in two parts

pub removed_at : (d : Data) (P : Pointer) (t : List ℕ) → after_remove d (P ++ t ∷ []) ≡ after_change (take_from t) d P
removed_at d [] t = refl
removed_at d (u ∷ P) t = ap (λ x. after_change (take_from x) d (front_of u (P ++ t ∷ []))) (last_append u t P) ∙ ap (λ Q. after_change (take_from t) d Q) (front_append u t P)

pub added_at : (d : Data) (P : Pointer) (t : List ℕ) (v : Data) → after_add d (P ++ t ∷ []) v ≡ after_change (put_in v t) d P
added_at d [] t v = refl
added_at d (u ∷ P) t v = ap (λ x. after_change (put_in v x) d (front_of u (P ++ t ∷ []))) (last_append u t P) ∙ ap (λ Q. after_change (put_in v t) d Q) (front_append u t P)

-- ---- a change taken back where it was made

-- g takes back what f makes of what stands at P
abbrev pub TakesBackAt : (Data → Option Data) → (Data → Option Data) → Data → Pointer → Type 0
TakesBackAt f g d P = (p q : Data) → IsDocument p → pointee d P ≡ Some p → f p ≡ Some q → IsDocument q × (g q ≡ Some p)

pub set_altered : (g : Data → Option Data) (d : Data) (t : List ℕ) (P : Pointer) (s : Segment) (c b : Data) → segment_of d t ≡ Some s → child s d ≡ Some c → after_change g b P ≡ Some c
    → after_change g (set_child s b d) (t ∷ P) ≡ Some (set_child s c (set_child s b d))
set_altered g d t P s c b named stands inner = search (rules, step_of_set, child_set)

pub altered_back : (f g : Data → Option Data) (d : Data) (P : Pointer) (e : Data) → IsDocument d → TakesBackAt f g d P → after_change f d P ≡ Some e → IsDocument e × (after_change g e P ≡ Some d)
altered_back f g d [] e hd back is = back d e hd refl is
altered_back f g d (t ∷ P) e hd back is =
    option_and_then_some _ (segment_of d t) e is (λ s named more.
    option_and_then_some _ (child s d) e more (λ c stands rest.
    option_map_some _ (after_change f c P) e rest (λ b inner whole.
    (let hc : IsDocument c = child_document s d c hd stands in
    let i : IsDocument b × (after_change g b P ≡ Some c) = altered_back f g c P b hc (λ p q hp at. back p q hp (rw (named, stands) at)) inner in
    subst (λ x. IsDocument x × (after_change g x (t ∷ P) ≡ Some d)) whole
    (set_document s d b hd i.0, set_altered g d t P s c b named stands i.1 ∙ ap Some (set_back s d c b hd i.0 stands))))))

-- ---- add

pub settled_place : (b : Bool) (t : List ℕ) (ds : Items) (i : ℕ) → bytes_eq t next_token ≡ b → Aims (array ds) t (place i) → place_of (if b then decimal_token (items_len ds) else t) ≡ Some i
settled_place b t ds i is h = search (rules, bytes_eq-Decides, next_is_no_place, place_is_token, bytes_eq)

put_item_back : (t : List ℕ) (v : Data) (ds : Items) (q : Data) → put_in v t (array ds) ≡ Some q → take_from (settled_token (Some (array ds)) t) q ≡ Some (array ds)
put_item_back t v ds q is =
    option_map_some _ (slot_of t ds) q is (λ i slot whole.
    (let aims : Aims (array ds) t (place i) = slot_aims t ds i slot in
    subst (λ x. take_from (settled_token (Some (array ds)) t) x ≡ Some (array ds)) whole
    (take_item (settled_token (Some (array ds)) t) i v ds (settled_place (bytes_eq t next_token) t ds i refl aims) (aims_within t ds i aims))))

put_member_back : (t : List ℕ) (v : Data) (ms : Members) (q : Data) → IsDocument (object ms) → IsDocument v → get_member t ms ≡ None → put_in v t (object ms) ≡ Some q
    → take_from t q ≡ Some (object ms)
put_member_back t v ms q h hv no_one is = search (rules, take_member)

set_one : (t : List ℕ) (v w : Data) (ms : Members) → after_change (λ c. Some w) (object (put t v ms)) (t ∷ []) ≡ Some (object (put t w (put t v ms)))
set_one t v w ms = rw (get_member-put t v ms) refl

put_over_back : (t : List ℕ) (v w : Data) (ms : Members) (q : Data) → IsDocument (object ms) → IsDocument v → get_member t ms ≡ Some w → put_in v t (object ms) ≡ Some q
    → after_change (λ c. Some w) q (t ∷ []) ≡ Some (object ms)
put_over_back t v w ms q h hv was is = search (rules, set_one t v w ms, set_back (key t) (object ms) w v h hv was)

pub found_last : (d : Data) (t : List ℕ) (P : Pointer) (p : Data) → pointee d (front_of t P) ≡ Some p → pointee d (t ∷ P) ≡ pointee p (last_of t P ∷ [])
found_last d t P p at = ap (pointee d) (split_whole t P) ∙ found_append d (front_of t P) (last_of t P ∷ []) ∙ ap (option_and_then (λ x. pointee x (last_of t P ∷ []))) at

found_member : (t : List ℕ) (ms : Members) → pointee (object ms) (t ∷ []) ≡ get_member t ms
found_member t ms = search rules

module _ (d : Data) (t : List ℕ) (P : Pointer) (v e : Data) (hd : IsDocument d) (hv : IsDocument v) (is : after_add d (t ∷ P) v ≡ Some e) where
  -- at the parent p, by g
  back_at : (p : Data) (g : Data → Option Data) → pointee d (front_of t P) ≡ Some p → ((q : Data) → IsDocument p → put_in v (last_of t P) p ≡ Some q → g q ≡ Some p)
      → after_change g e (front_of t P) ≡ Some d
  back_at p g at back =
      (altered_back (put_in v (last_of t P)) g d (front_of t P) e hd
      (λ r q hr here puts.
      (let same : r ≡ p = cc in (
        (put_in_puts v (last_of t P) r q puts).keeps hr hv,
        subst (λ x. IsDocument x → put_in v (last_of t P) x ≡ Some q → g q ≡ Some x) (sym same) (λ hp ps. back q hp ps) hr puts,
      ))) is).1

  undo_member : (ms : Members) (o : Option Data) → pointee d (front_of t P) ≡ Some (object ms) → pointee d (t ∷ P) ≡ o → after_step e (undo_at (t ∷ P) o) ≡ Ok d
  undo_member ms None at was = search (rules, found_member (last_of t P) ms, found_last d t P (object ms) at, back_at (object ms) (take_from (last_of t P)) at, put_member_back (last_of t P) v ms, found_member, found_last, back_at, put_member_back)
  undo_member ms (Some w) at was =
      let g : get_member (last_of t P) ms ≡ Some w = sym (found_member (last_of t P) ms) ∙ sym (found_last d t P (object ms) at) ∙ was in
      ap (or_refused InvalidPointer)
      (ap (after_change (λ c. Some w) e) (split_whole t P) ∙ altered_append (λ c. Some w) e (front_of t P) (last_of t P ∷ [])
      ∙ back_at (object ms) (λ c. after_change (λ x. Some w) c (last_of t P ∷ [])) at (λ q hp puts. put_over_back (last_of t P) v w ms q hp hv g puts))

  undo_below : (p q : Data) → pointee d (front_of t P) ≡ Some p → put_in v (last_of t P) p ≡ Some q → after_step e (undo_in d (front_of t P) (last_of t P) (t ∷ P) (Some p)) ≡ Ok d
  undo_below p q at puts = search (rules, removed_at, back_at, put_item_back, undo_member)

  undo_beyond : after_step e (undo_add d (t ∷ P)) ≡ Ok d
  undo_beyond = search (rules, IsAltered (put_in v (last_of t P)) d (front_of t P) e, altered_is (put_in v (last_of t P)) d (front_of t P) e is, resolves_found d (front_of t P), undo_below, IsAltered, altered_is, resolves_found)

pub undo_added : (d : Data) (P : Pointer) (v e : Data) → IsDocument d → IsDocument v → after_add d P v ≡ Some e → after_step e (undo_add d P) ≡ Ok d
undo_added d P v e hd hv is = search (rules, undo_beyond)

-- ---- remove, replace

module _ (t : List ℕ) (p q w : Data) (hp : IsDocument p) (is : take_from t p ≡ Some q) (was : pointee p (t ∷ []) ≡ Some w) where
  put_back : IsDocument q × (put_in w t q ≡ Some p)
  put_back = search (rules, TakesIn t p q, take_from_takes t p q is, stands_one p t, drop_document, put_taken t p w, TakesIn, take_from_takes, stands_one, put_taken)

pub undo_removed : (d : Data) (P : Pointer) (w m : Data) → IsDocument d → after_remove d P ≡ Some m → pointee d P ≡ Some w → IsDocument m × (after_add m P w ≡ Some d)
undo_removed d [] w m hd is was = cc
undo_removed d (t ∷ P) w m hd is was =
    altered_back (take_from (last_of t P)) (put_in w (last_of t P)) d (front_of t P) m hd
    (λ p q hp at takes. put_back (last_of t P) p q w hp takes (sym (found_last d t P p at) ∙ was)) is

pub undo_replaced : (d : Data) (P : Pointer) (v w e : Data) → IsDocument d → IsDocument v → after_replace d P v ≡ Some e → pointee d P ≡ Some w → after_replace e P w ≡ Some d
undo_replaced d P v w e hd hv is was =
    (altered_back (λ c. Some v) (λ c. Some w) d P e hd
    (λ p q hp at puts. (let a : v ≡ q = (let b : ◌≡◌ {A = Option Data} (Some v) (Some q) = puts in cc) in (subst IsDocument a hv, sym was ∙ at))) is).1
