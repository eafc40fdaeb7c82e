-- What a value put at a place leaves of a tree, and a place one token further.
use Rattle.std.proofs.Common.{◌≡◌, ℕ, zero, suc, List, [], ◌∷◌, ◌++◌, Bool, true, false, cond, bytes_eq, Option, Some, None, option_map, option_and_then, refl, sym, ap, ap₂, ◌∙◌}
use Rattle.std.proofs.lemmas.Option.{none-some, same_Some}
use Rattle.json.specs.Json.{Json, null, boolean, number, string, array, object, Items, no_items, item, Members, no_members, member}
use Rattle.json.specs.Find.{get_member, get_item, later_or}
use Rattle.jsonptr.specs.Places.{place_of}
use Rattle.jsonptr.specs.Text.{Pointer}
use Rattle.json_patch_document.specs.ChangeComputed.{front_of, last_of}
use Rattle.json_patch_text.specs.Changed.{add_child, add_member, added, changed, removed, take_child, without}
use Rattle.json_patch_text.proofs.Members.{put_here}
use Rattle.json_text.specs.Pointed.{child, if_some, put_at, put_child, put_element, put_member, tree_at}

-- ---- one child, once and twice

element_here : (n : ℕ) (w c : Json) (js : Items) → get_item n js ≡ Some c → get_item n (put_element n w js) ≡ Some w
element_here n w c no_items e = absurd (none-some c e)
element_here zero w c (item j js) e = refl
element_here (suc n) w c (item j js) e = element_here n w c js e

element_twice : (n : ℕ) (v w : Json) (js : Items) → put_element n v (put_element n w js) ≡ put_element n v js
element_twice n v w no_items = refl
element_twice zero v w (item j js) = refl
element_twice (suc n) v w (item j js) = ap (item j) (element_twice n v w js)

-- of the first member, by what stands at the name behind it
member_step : (k l : List ℕ) (v w j : Json) (ms : Members) (o : Option Json) (b : Bool) → get_member k ms ≡ o → bytes_eq l k ≡ b → put_member k v (put_member k w ms) ≡ put_member k v ms
    → put_member k v (if_some o (λ later. member l j (put_member k w ms)) (member l (cond b w j) ms)) ≡ if_some o (λ later. member l j (put_member k v ms)) (member l (cond b v j) ms)
member_step k l v w j ms (Some x) b e f more =
    ap (λ o. if_some o (λ later. member l j (put_member k v (put_member k w ms))) (member l (cond (bytes_eq l k) v j) (put_member k w ms))) (put_here k w x ms e)
    ∙ ap (member l j) more
member_step k l v w j ms None true e f more = ap₂ (λ o b. if_some o (λ later. member l w (put_member k v ms)) (member l (cond b v w) ms)) e f
member_step k l v w j ms None false e f more = ap₂ (λ o b. if_some o (λ later. member l j (put_member k v ms)) (member l (cond b v j) ms)) e f

member_twice : (k : List ℕ) (v w : Json) (ms : Members) → put_member k v (put_member k w ms) ≡ put_member k v ms
member_twice k v w no_members = refl
member_twice k v w (member l j ms) = member_step k l v w j ms (get_member k ms) (bytes_eq l k) refl refl (member_twice k v w ms)

placed_here : (w c : Json) (js : Items) (o : Option ℕ) → option_and_then (λ n. get_item n js) o ≡ Some c → option_and_then (λ n. get_item n (if_some o (λ m. put_element m w js) js)) o ≡ Some w
placed_here w c js None e = absurd (none-some c e)
placed_here w c js (Some n) e = element_here n w c js e

placed_twice : (v w : Json) (js : Items) (o : Option ℕ) → if_some o (λ n. put_element n v (if_some o (λ m. put_element m w js) js)) (if_some o (λ m. put_element m w js) js) ≡ if_some o (λ n. put_element n v js) js
placed_twice v w js None = refl
placed_twice v w js (Some n) = element_twice n v w js

child_here : (t : List ℕ) (w c j : Json) → child t j ≡ Some c → child t (put_child t w j) ≡ Some w
child_here t w c null e = absurd (none-some c e)
child_here t w c (boolean b) e = absurd (none-some c e)
child_here t w c (number s) e = absurd (none-some c e)
child_here t w c (string s) e = absurd (none-some c e)
child_here t w c (array js) e = placed_here w c js (place_of t) e
child_here t w c (object ms) e = put_here t w c ms e

child_twice : (t : List ℕ) (v w j : Json) → put_child t v (put_child t w j) ≡ put_child t v j
child_twice t v w null = refl
child_twice t v w (boolean b) = refl
child_twice t v w (number s) = refl
child_twice t v w (string s) = refl
child_twice t v w (array js) = ap array (placed_twice v w js (place_of t))
child_twice t v w (object ms) = ap object (member_twice t v w ms)

-- ---- a value put at a place

pub put_stands : (P : Pointer) (w j c : Json) → tree_at P j ≡ Some c → tree_at P (put_at P w j) ≡ Some w
put_stands [] w j c e = refl
put_stands (t ∷ P) w j c e = by (child t j) refl (λ d. put_stands P w d c) e
  where
    by : (o : Option Json) → child t j ≡ o → ((d : Json) → tree_at P d ≡ Some c → tree_at P (put_at P w d) ≡ Some w) → option_and_then (tree_at P) o ≡ Some c → tree_at (t ∷ P) (if_some o (λ d. put_child t (put_at P w d) j) j) ≡ Some w
    by None at more g = absurd (none-some c g)
    by (Some d) at more g = ap (option_and_then (tree_at P)) (child_here t (put_at P w d) d j at) ∙ more d g

pub put_again : (P : Pointer) (v w j c : Json) → tree_at P j ≡ Some c → put_at P v (put_at P w j) ≡ put_at P v j
put_again [] v w j c e = refl
put_again (t ∷ P) v w j c e = by (child t j) refl (λ d. put_again P v w d c) e
  where
    by : (o : Option Json) → child t j ≡ o → ((d : Json) → tree_at P d ≡ Some c → put_at P v (put_at P w d) ≡ put_at P v d) → option_and_then (tree_at P) o ≡ Some c
        → put_at (t ∷ P) v (if_some o (λ d. put_child t (put_at P w d) j) j) ≡ if_some o (λ d. put_child t (put_at P v d) j) j
    by None at more g = absurd (none-some c g)
    by (Some d) at more g =
        ap (λ o. if_some o (λ c. put_child t (put_at P v c) (put_child t (put_at P w d) j)) (put_child t (put_at P w d) j)) (child_here t (put_at P w d) d j at)
        ∙ child_twice t (put_at P v (put_at P w d)) (put_at P w d) j
        ∙ ap (λ x. put_child t x j) (more d g)

-- ---- what stands there put there again

element_same : (n : ℕ) (c : Json) (js : Items) → get_item n js ≡ Some c → put_element n c js ≡ js
element_same n c no_items e = refl
element_same zero c (item j js) e = ap (λ x. item x js) (sym (same_Some j c e))
element_same (suc n) c (item j js) e = ap (item j) (element_same n c js e)

member_same : (k : List ℕ) (c : Json) (ms : Members) → get_member k ms ≡ Some c → put_member k c ms ≡ ms
member_same k c no_members e = refl
member_same k c (member l j ms) e = by (get_member k ms) (bytes_eq l k) (λ f. member_same k c ms f) e
  where
    by : (o : Option Json) (b : Bool) → (o ≡ Some c → put_member k c ms ≡ ms) → later_or o (cond b (Some j) None) ≡ Some c → if_some o (λ later. member l j (put_member k c ms)) (member l (cond b c j) ms) ≡ member l j ms
    by (Some x) b more g = ap (member l j) (more g)
    by None true more g = ap (λ x. member l x ms) (sym (same_Some j c g))
    by None false more g = refl

placed_same : (c : Json) (js : Items) (o : Option ℕ) → option_and_then (λ n. get_item n js) o ≡ Some c → if_some o (λ n. put_element n c js) js ≡ js
placed_same c js None e = refl
placed_same c js (Some n) e = element_same n c js e

child_same : (t : List ℕ) (c j : Json) → child t j ≡ Some c → put_child t c j ≡ j
child_same t c null e = refl
child_same t c (boolean b) e = refl
child_same t c (number s) e = refl
child_same t c (string s) e = refl
child_same t c (array js) e = ap array (placed_same c js (place_of t) e)
child_same t c (object ms) e = ap object (member_same t c ms e)

pub put_same : (P : Pointer) (j c : Json) → tree_at P j ≡ Some c → put_at P c j ≡ j
put_same [] j c e = sym (same_Some j c e)
put_same (t ∷ P) j c e = by (child t j) refl (λ d. put_same P d c) e
  where
    by : (o : Option Json) → child t j ≡ o → ((d : Json) → tree_at P d ≡ Some c → put_at P c d ≡ d) → option_and_then (tree_at P) o ≡ Some c → if_some o (λ d. put_child t (put_at P c d) j) j ≡ j
    by None at more g = refl
    by (Some d) at more g = ap (λ x. put_child t x j) (more d g) ∙ child_same t d j at

-- ---- one token further

alone : (o : Option Json) → option_and_then (tree_at []) o ≡ o
alone None = refl
alone (Some v) = refl

pub further : (P : Pointer) (t : List ℕ) (j c : Json) → tree_at P j ≡ Some c → tree_at (P ++ t ∷ []) j ≡ child t c
further [] t j c e = alone (child t j) ∙ ap (child t) (same_Some j c e)
further (u ∷ P) t j c e = by (child u j) (λ d. further P t d c) e
  where
    by : (o : Option Json) → ((d : Json) → tree_at P d ≡ Some c → tree_at (P ++ t ∷ []) d ≡ child t c) → option_and_then (tree_at P) o ≡ Some c → option_and_then (tree_at (P ++ t ∷ [])) o ≡ child t c
    by None more g = absurd (none-some c g)
    by (Some d) more g = more d g

put_first : (t : List ℕ) (w j c v : Json) → j ≡ c → child t c ≡ Some v → put_at (t ∷ []) w j ≡ put_child t w c
put_first t w j c v e f = ap (put_at (t ∷ []) w) e ∙ ap (λ o. if_some o (λ d. put_child t w c) c) f

pub put_further : (P : Pointer) (t : List ℕ) (w j c v : Json) → tree_at P j ≡ Some c → child t c ≡ Some v → put_at (P ++ t ∷ []) w j ≡ put_at P (put_child t w c) j
put_further [] t w j c v e f = put_first t w j c v (same_Some j c e) f
put_further (u ∷ P) t w j c v e f = by (child u j) (λ d g. put_further P t w d c v g f) e
  where
    by : (o : Option Json) → ((d : Json) → tree_at P d ≡ Some c → put_at (P ++ t ∷ []) w d ≡ put_at P (put_child t w c) d) → option_and_then (tree_at P) o ≡ Some c
        → if_some o (λ d. put_child u (put_at (P ++ t ∷ []) w d) j) j ≡ if_some o (λ d. put_child u (put_at P (put_child t w c) d) j) j
    by None more g = refl
    by (Some d) more g = ap (λ x. put_child u x j) (more d g)

front_end : (u : List ℕ) (P : Pointer) (t : List ℕ) → front_of u (P ++ t ∷ []) ≡ u ∷ P
front_end u [] t = refl
front_end u (w ∷ P) t = ap (λ Q. u ∷ Q) (front_end w P t)

last_end : (u : List ℕ) (P : Pointer) (t : List ℕ) → last_of u (P ++ t ∷ []) ≡ t
last_end u [] t = refl
last_end u (w ∷ P) t = last_end w P t

at_place : (P : Pointer) (f : Json → Option Json) (j c d : Json) → tree_at P j ≡ Some c → f c ≡ Some d → changed f P j ≡ Some (put_at P d j)
at_place P f j c d e h = ap (option_and_then (λ x. option_map (λ y. put_at P y j) (f x))) e ∙ ap (option_map (λ y. put_at P y j)) h

pub added_further : (P : Pointer) (t : List ℕ) (w j : Json) (ms : Members) → tree_at P j ≡ Some (object ms) → added (P ++ t ∷ []) w j ≡ Some (put_at P (object (add_member t w ms)) j)
added_further [] t w j ms e = at_place [] (add_child w t) j (object ms) (object (add_member t w ms)) e refl
added_further (u ∷ P) t w j ms e = ap₂ (λ Q k. changed (add_child w k) Q j) (front_end u P t) (last_end u P t) ∙ at_place (u ∷ P) (add_child w t) j (object ms) (object (add_member t w ms)) e refl

pub removed_further : (P : Pointer) (t : List ℕ) (j c : Json) (ms : Members) → tree_at P j ≡ Some (object ms) → get_member t ms ≡ Some c → removed (P ++ t ∷ []) j ≡ Some (put_at P (object (without t ms)) j)
removed_further [] t j c ms e f = at_place [] (take_child t) j (object ms) (object (without t ms)) e (ap (option_map (λ old. object (without t ms))) f)
removed_further (u ∷ P) t j c ms e f =
    ap₂ (λ Q k. changed (take_child k) Q j) (front_end u P t) (last_end u P t)
    ∙ at_place (u ∷ P) (take_child t) j (object ms) (object (without t ms)) e (ap (option_map (λ old. object (without t ms))) f)
