-- Where a token puts a new child, and what that leaves.
use Rattle.json_patch_edit.proofs.Common.{◌≡◌, ℕ, ◌<◌, ◌≤◌, List, [], ◌∷◌, ⊎_elim, bytes_eq}
use Rattle.json_patch_edit.proofs.Common.{Option, Some, option_map, option_and_then, refl, ap, arith, rules}
use Rattle.json_patch_edit.proofs.Common.{bytes_eq-Decides, Data, array, object, Items, Members, put, get_member-put}
use Rattle.json_patch_edit.proofs.Common.{get_member-put_other, next_is_no_place, IsDocument, Segment, key, place, look}
use Rattle.json_patch_edit.proofs.Common.{sight, value_at, Aims, PutsAt, IsBeside, slot_of, put_in, insert_item, cases_lt}
use Rattle.json_patch_edit.proofs.Common.{nat_tests, items_len}
use Rattle.json_patch_document.proofs.Members.{put_members, get_insert, get_insert_later, get_insert_before, insert_items}
use Rattle.json_patch_edit.proofs.Locations.{option_map_some}

pub slot_aims : (t : List ℕ) (ds : Items) (i : ℕ) → slot_of t ds ≡ Some i → Aims (array ds) t (place i)
slot_aims t ds i h = (search rules)

pub slot_some : (t : List ℕ) (ds : Items) (i : ℕ) → Aims (array ds) t (place i) → slot_of t ds ≡ Some i
slot_some t ds i h = search (rules, bytes_eq-Decides, next_is_no_place, bytes_eq, nat_tests)

pub aims_put : (v : Data) (t : List ℕ) (p : Data) (s : Segment) → Aims p t s → (q : Data) × (put_in v t p ≡ Some q)
aims_put v t (object ms) (key k) h = (object (put t v ms), refl)
aims_put v t (array ds) (place i) h = (array (insert_item i v ds), ap (option_map (λ i. array (insert_item i v ds))) (slot_some t ds i h))
aims_put v t p s h = absurd h

pub aims_same : (p : Data) (t : List ℕ) (s r : Segment) → Aims p t s → Aims p t r → s ≡ r
aims_same (array ds) t (place i) (place j) h g = let a : slot_of t ds ≡ Some i = slot_some t ds i h in let b : slot_of t ds ≡ Some j = slot_some t ds j g in cc
aims_same p t s r h g = search rules

pub record PutsIn (v : Data) (t : List ℕ) (p q : Data) : Type 0 where
  pub s : Segment
  pub aims : Aims p t s
  pub puts : PutsAt p q v [] s
  pub keeps : IsDocument p → IsDocument v → IsDocument q

pub below : (o p : Option Data) (R : List Segment) → o ≡ p → sight (option_and_then (λ x. value_at x R) o) ≡ sight (option_and_then (λ x. value_at x R) p)
below o p R e = ap (λ o. sight (option_and_then (λ x. value_at x R) o)) e

member_elsewhere : (v : Data) (t : List ℕ) (ms : Members) (X : List Segment) → IsBeside [] (key t) X → look (object (put t v ms)) X ≡ look (object ms) X
member_elsewhere v t ms (key q ∷ R) b = below _ _ R (get_member-put_other q t v ms (λ h. b R (ap (λ x. key x ∷ R) h)))
member_elsewhere v t ms X b = search rules

put_member_in : (v : Data) (t : List ℕ) (ms : Members) → PutsIn v t (object ms) (object (put t v ms))
put_member_in v t ms = record {
  s = key t;
  aims = refl;
  puts = record { here = λ R. below _ _ R (get_member-put t v ms); later = tt; elsewhere = member_elsewhere v t ms };
  keeps = λ h hv. put_members t v ms h hv;
}

pub not_from : (i j : ℕ) (R : List Segment) → IsBeside [] (place i) (place j ∷ R) → j < i
not_from i j R b = ⊎_elim (λ (lt : j < i). lt) (λ (le : i ≤ j). absurd (b j R le refl)) (cases_lt j i)

item_elsewhere : (v : Data) (i : ℕ) (ds : Items) → i ≤ items_len ds → (X : List Segment) → IsBeside [] (place i) X → look (array (insert_item i v ds)) X ≡ look (array ds) X
item_elsewhere v i ds le (place j ∷ R) b = below _ _ R (get_insert_before j i v ds le (not_from i j R b))
item_elsewhere v i ds le X b = search rules

pub aims_within : (t : List ℕ) (ds : Items) (i : ℕ) → Aims (array ds) t (place i) → i ≤ items_len ds
aims_within t ds i h = ⊎_elim (λ a. a.1) (λ a. let e : i ≡ items_len ds = a.1 in omega arith) h

put_item_in : (v : Data) (t : List ℕ) (ds : Items) (i : ℕ) → slot_of t ds ≡ Some i → PutsIn v t (array ds) (array (insert_item i v ds))
put_item_in v t ds i is =
    let aims : Aims (array ds) t (place i) = slot_aims t ds i is in
    let le : i ≤ items_len ds = aims_within t ds i aims in
    record {
      s = place i;
      aims = aims;
      puts = record {
        here = λ R. below _ _ R (get_insert i v ds le);
        later = λ j R h. below _ _ R (get_insert_later j i v ds le h);
        elsewhere = item_elsewhere v i ds le;
      };
      keeps = λ h hv. insert_items i v ds h hv;
    }

pub put_in_puts : (v : Data) (t : List ℕ) (p q : Data) → put_in v t p ≡ Some q → PutsIn v t p q
put_in_puts v t p q is = search (rules, put_member_in, option_map_some, put_item_in)
