-- How deep a part of a tree nests, and a tree with a value put in or taken out.
use Rattle.std.proofs.Common.{◌≡◌, ◌≤◌, ◌+◌, ℕ, zero, suc, max, length, List, [], ◌∷◌, Bool, true, false, cond, bytes_eq, Option, Some, None, option_and_then, option_map, refl, ap, arith}
use Rattle.std.proofs.lemmas.Option.{none-some, same_Some}
use Rattle.json.specs.Json.{Json, null, boolean, number, string, array, object, Items, no_items, item, Members, no_members, member}
use Rattle.json.specs.Find.{get_member, get_item, later_or}
use Rattle.json.specs.Tree.{depth, items_depth, members_depth}
use Rattle.jsonptr.specs.Places.{place_of}
use Rattle.jsonptr.specs.Text.{Pointer}
use Rattle.json_text.specs.Changed.{add_at, add_child, elements_len, front_of, insert_element, last_of, push_member, remove_at, remove_child, remove_element, slot_in, without}
use Rattle.json_text.specs.Pointed.{child, if_some, put_at, put_child, put_element, put_member, tree_at}

-- ---- parts

element_inside : (n : ℕ) (js : Items) (c : Json) → get_item n js ≡ Some c → depth c ≤ items_depth js
element_inside n no_items c e = absurd (none-some c e)
element_inside zero (item j js) c e = let same : depth j ≡ depth c = ap depth (same_Some j c e) in omega arith
element_inside (suc n) (item j js) c e = let more = element_inside n js c e in omega arith

member_inside : (k : List ℕ) (ms : Members) (c : Json) → get_member k ms ≡ Some c → depth c ≤ members_depth ms
member_inside k no_members c e = absurd (none-some c e)
member_inside k (member l j ms) c e = by (get_member k ms) (bytes_eq l k) (λ x f. member_inside k ms x f) e
  where
    by : (o : Option Json) (b : Bool) → ((x : Json) → o ≡ Some x → depth x ≤ members_depth ms) → later_or o (cond b (Some j) None) ≡ Some c → depth c ≤ max (depth j) (members_depth ms)
    by (Some x) b more g = let same : depth x ≡ depth c = ap depth (same_Some x c g) in let deep = more x refl in omega arith
    by None true more g = let same : depth j ≡ depth c = ap depth (same_Some j c g) in omega arith
    by None false more g = absurd (none-some c g)

placed_inside : (js : Items) (o : Option ℕ) (c : Json) → option_and_then (λ n. get_item n js) o ≡ Some c → depth c ≤ items_depth js
placed_inside js None c e = absurd (none-some c e)
placed_inside js (Some n) c e = element_inside n js c e

child_inside : (t : List ℕ) (j c : Json) → child t j ≡ Some c → suc (depth c) ≤ depth j
child_inside t null c e = absurd (none-some c e)
child_inside t (boolean b) c e = absurd (none-some c e)
child_inside t (number s) c e = absurd (none-some c e)
child_inside t (string s) c e = absurd (none-some c e)
child_inside t (array js) c e = let h = placed_inside js (place_of t) c e in omega arith
child_inside t (object ms) c e = let h = member_inside t ms c e in omega arith

-- a part nests less deep than the whole, by as many levels as lead to it
pub part_inside : (P : Pointer) (j v : Json) → tree_at P j ≡ Some v → length P + depth v ≤ depth j
part_inside [] j v e = let same : depth j ≡ depth v = ap depth (same_Some j v e) in omega arith
part_inside (t ∷ P) j v e = by (child t j) (λ c f. child_inside t j c f) (λ c g. part_inside P c v g) e
  where
    by : (o : Option Json) → ((c : Json) → o ≡ Some c → suc (depth c) ≤ depth j) → ((c : Json) → tree_at P c ≡ Some v → length P + depth v ≤ depth c) → option_and_then (tree_at P) o ≡ Some v → length (t ∷ P) + depth v ≤ depth j
    by None f more g = absurd (none-some v g)
    by (Some c) f more g = let a = more c g in let b = f c refl in omega arith

-- ---- put in the place of a part

put_element_nests : (n : ℕ) (w : Json) (js : Items) → items_depth (put_element n w js) ≤ max (items_depth js) (depth w)
put_element_nests n w no_items = omega arith
put_element_nests zero w (item j js) = omega arith
put_element_nests (suc n) w (item j js) = let more = put_element_nests n w js in omega arith

put_placed_nests : (w : Json) (js : Items) (o : Option ℕ) → items_depth (if_some o (λ n. put_element n w js) js) ≤ max (items_depth js) (depth w)
put_placed_nests w js None = omega arith
put_placed_nests w js (Some n) = put_element_nests n w js

put_member_nests : (k : List ℕ) (w : Json) (ms : Members) → members_depth (put_member k w ms) ≤ max (members_depth ms) (depth w)
put_member_nests k w no_members = omega arith
put_member_nests k w (member l j ms) = by (get_member k ms) (bytes_eq l k) (put_member_nests k w ms)
  where
    by : (o : Option Json) (b : Bool) → members_depth (put_member k w ms) ≤ max (members_depth ms) (depth w)
        → members_depth (if_some o (λ later. member l j (put_member k w ms)) (member l (cond b w j) ms)) ≤ max (max (depth j) (members_depth ms)) (depth w)
    by (Some x) b more = omega arith
    by None true more = omega arith
    by None false more = omega arith

put_child_nests : (t : List ℕ) (w j : Json) → depth (put_child t w j) ≤ max (depth j) (suc (depth w))
put_child_nests t w null = omega arith
put_child_nests t w (boolean b) = omega arith
put_child_nests t w (number s) = omega arith
put_child_nests t w (string s) = omega arith
put_child_nests t w (array js) = let more = put_placed_nests w js (place_of t) in omega arith
put_child_nests t w (object ms) = let more = put_member_nests t w ms in omega arith

pub put_nests : (P : Pointer) (w j : Json) → depth (put_at P w j) ≤ max (depth j) (length P + depth w)
put_nests [] w j = omega arith
put_nests (t ∷ P) w j = by (child t j) (λ c f. child_inside t j c f) (λ c. put_nests P w c)
  where
    by : (o : Option Json) → ((c : Json) → o ≡ Some c → suc (depth c) ≤ depth j) → ((c : Json) → depth (put_at P w c) ≤ max (depth c) (length P + depth w)) → depth (if_some o (λ c. put_child t (put_at P w c) j) j) ≤ max (depth j) (length (t ∷ P) + depth w)
    by None f more = omega arith
    by (Some c) f more = let a = put_child_nests t (put_at P w c) j in let b = more c in let d = f c refl in omega arith

-- ---- taken out

less_elements_nest : (n : ℕ) (js : Items) → items_depth (remove_element n js) ≤ items_depth js
less_elements_nest n no_items = omega arith
less_elements_nest zero (item j js) = omega arith
less_elements_nest (suc n) (item j js) = let more = less_elements_nest n js in omega arith

less_placed_nest : (js : Items) (o : Option ℕ) → items_depth (if_some o (λ n. remove_element n js) js) ≤ items_depth js
less_placed_nest js None = omega arith
less_placed_nest js (Some n) = less_elements_nest n js

kept_nests : (l : List ℕ) (j : Json) (ms ns : Members) (b : Bool) → members_depth ns ≤ members_depth ms → members_depth (cond b ns (member l j ns)) ≤ max (depth j) (members_depth ms)
kept_nests l j ms ns true h = omega arith
kept_nests l j ms ns false h = omega arith

less_members_nest : (k : List ℕ) (ms : Members) → members_depth (without k ms) ≤ members_depth ms
less_members_nest k no_members = omega arith
less_members_nest k (member l j ms) = kept_nests l j ms (without k ms) (bytes_eq l k) (less_members_nest k ms)

remove_child_nests : (t : List ℕ) (j : Json) → depth (remove_child t j) ≤ depth j
remove_child_nests t null = omega arith
remove_child_nests t (boolean b) = omega arith
remove_child_nests t (number s) = omega arith
remove_child_nests t (string s) = omega arith
remove_child_nests t (array js) = let more = less_placed_nest js (place_of t) in omega arith
remove_child_nests t (object ms) = let more = less_members_nest t ms in omega arith

pub remove_nests : (P : Pointer) (j : Json) → depth (remove_at P j) ≤ depth j
remove_nests [] j = omega arith
remove_nests (t ∷ P) j = by (tree_at (front_of t P) j) (λ c e. part_inside (front_of t P) j c e)
  where
    by : (o : Option Json) → ((c : Json) → o ≡ Some c → length (front_of t P) + depth c ≤ depth j) → depth (if_some o (λ c. put_at (front_of t P) (remove_child (last_of t P) c) j) j) ≤ depth j
    by None f = omega arith
    by (Some c) f = let a = put_nests (front_of t P) (remove_child (last_of t P) c) j in let b = remove_child_nests (last_of t P) c in let d = f c refl in omega arith

-- ---- added

insert_nests : (n : ℕ) (w : Json) (js : Items) → items_depth (insert_element n w js) ≤ max (items_depth js) (depth w)
insert_nests n w no_items = omega arith
insert_nests zero w (item j js) = omega arith
insert_nests (suc n) w (item j js) = let more = insert_nests n w js in omega arith

push_nests : (k : List ℕ) (w : Json) (ms : Members) → members_depth (push_member k w ms) ≤ max (members_depth ms) (depth w)
push_nests k w no_members = omega arith
push_nests k w (member l j ms) = let more = push_nests k w ms in omega arith

add_child_nests : (t : List ℕ) (w j d : Json) → add_child t w j ≡ Some d → depth d ≤ max (depth j) (suc (depth w))
add_child_nests t w null d e = absurd (none-some d e)
add_child_nests t w (boolean b) d e = absurd (none-some d e)
add_child_nests t w (number s) d e = absurd (none-some d e)
add_child_nests t w (string s) d e = absurd (none-some d e)
add_child_nests t w (array js) d e = by (slot_in t (elements_len js)) e
  where
    by : (o : Option ℕ) → option_map (λ n. array (insert_element n w js)) o ≡ Some d → depth d ≤ max (depth (array js)) (suc (depth w))
    by None g = absurd (none-some d g)
    by (Some n) g = let same : depth (array (insert_element n w js)) ≡ depth d = ap depth (same_Some (array (insert_element n w js)) d g) in let more = insert_nests n w js in omega arith
add_child_nests t w (object ms) d e =
    let same : depth (object (if_some (get_member t ms) (λ v. put_member t w ms) (push_member t w ms))) ≡ depth d = ap depth (same_Some _ d e) in
    let more = by (get_member t ms) in
    omega arith
  where
    by : (o : Option Json) → members_depth (if_some o (λ v. put_member t w ms) (push_member t w ms)) ≤ max (members_depth ms) (depth w)
    by None = push_nests t w ms
    by (Some v) = put_member_nests t w ms

front_length : (t : List ℕ) (P : Pointer) → length (front_of t P) ≡ length P
front_length t [] = refl
front_length t (u ∷ P) = ap suc (front_length u P)

pub add_nests : (P : Pointer) (w j k : Json) → add_at P w j ≡ Some k → depth k ≤ max (depth j) (length P + depth w)
add_nests [] w j k e = let same : depth w ≡ depth k = ap depth (same_Some w k e) in omega arith
add_nests (t ∷ P) w j k e = by (tree_at (front_of t P) j) (λ c f. part_inside (front_of t P) j c f) e
  where
    put : (c : Json) (o : Option Json) → ((d : Json) → o ≡ Some d → depth d ≤ max (depth c) (suc (depth w))) → length (front_of t P) + depth c ≤ depth j → option_map (λ d. put_at (front_of t P) d j) o ≡ Some k → depth k ≤ max (depth j) (length (t ∷ P) + depth w)
    put c None f h g = absurd (none-some k g)
    put c (Some d) f h g =
        let same : depth (put_at (front_of t P) d j) ≡ depth k = ap depth (same_Some (put_at (front_of t P) d j) k g) in
        let a = put_nests (front_of t P) d j in let b = f d refl in let l = front_length t P in
        omega arith

    by : (o : Option Json) → ((c : Json) → o ≡ Some c → length (front_of t P) + depth c ≤ depth j) → option_and_then (λ c. option_map (λ d. put_at (front_of t P) d j) (add_child (last_of t P) w c)) o ≡ Some k
        → depth k ≤ max (depth j) (length (t ∷ P) + depth w)
    by None f g = absurd (none-some k g)
    by (Some c) f g = put c (add_child (last_of t P) w c) (λ d h. add_child_nests (last_of t P) w c d h) (f c refl) g
