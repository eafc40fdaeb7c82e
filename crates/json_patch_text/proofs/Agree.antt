-- The trees that json_text's changes of a text leave are those that operations come to.
use Rattle.std.proofs.Common.{◌≡◌, ◌≤◌, ℕ, zero, suc, List, [], ◌∷◌, ◌++◌, Option, Some, None, cond, bytes_eq, option_map, option_and_then, refl, sym, ap, ap₂, ◌∙◌, subst, inl, inr, arith}
use Rattle.std.proofs.lemmas.Option.{none-some, same_Some}
use Rattle.json.specs.Json.{Json, null, boolean, number, string, array, object, Items, no_items, item, Members, no_members, member}
use Rattle.json.specs.Find.{get_member}
use Rattle.json.specs.Tree.{depth}
use Rattle.jsonptr.specs.Places.{place_of}
use Rattle.jsonptr.specs.Text.{Pointer}
use Rattle.json_patch_document.specs.ChangeComputed.{front_of, last_of, slot_in}
use Rattle.json_patch_text.specs.Changed.{count, insert_element, append_member, add_child, remove_child, remove_element, without, take_child, changed, added, removed, replaced}
use Rattle.json_text.specs.Changed as text
use Rattle.json_text.specs.Added.{HasNoPlace}
use Rattle.json_lexemes.specs.Skipped.{nesting}
use Rattle.json_text.specs.Pointed.{child, if_some, put_at, put_member, tree_at}
use Rattle.json_text.specs.Removed.{AreCutOut, HasNothingToRemove, IsRemoved}
use Rattle.json_text.specs.Replaced.{LeadsNowhere}
use Rattle.json_lexemes.specs.Spelled.{Says}
use Rattle.json_text.proofs.Deeper.{removed_nests}
use Rattle.json_lexemes.proofs.Nests.{nests, one_tree}

-- ---- add

count_is : (js : Items) → text.elements_len js ≡ count js
count_is no_items = refl
count_is (item j js) = ap suc (count_is js)

insert_is : (n : ℕ) (w : Json) (js : Items) → text.insert_element n w js ≡ insert_element n w js
insert_is n w no_items = refl
insert_is zero w (item j js) = refl
insert_is (suc n) w (item j js) = ap (item j) (insert_is n w js)

append_is : (k : List ℕ) (w : Json) (ms : Members) → text.push_member k w ms ≡ append_member k w ms
append_is k w no_members = refl
append_is k w (member l j ms) = ap (member l j) (append_is k w ms)

mapped : (f g : ℕ → Json) (o : Option ℕ) → ((n : ℕ) → f n ≡ g n) → option_map f o ≡ option_map g o
mapped f g None h = refl
mapped f g (Some n) h = ap Some (h n)

add_child_is : (t : List ℕ) (w j : Json) → text.add_child t w j ≡ add_child w t j
add_child_is t w null = refl
add_child_is t w (boolean b) = refl
add_child_is t w (number s) = refl
add_child_is t w (string s) = refl
add_child_is t w (array js) = mapped (λ n. array (text.insert_element n w js)) (λ n. array (insert_element n w js)) (text.slot_in t (text.elements_len js)) (λ n. ap array (insert_is n w js)) ∙ ap (λ m. option_map (λ n. array (insert_element n w js)) (slot_in t m)) (count_is js)
add_child_is t w (object ms) = ap (λ ns. Some (object (if_some (get_member t ms) (λ v. put_member t w ms) ns))) (append_is t w ms)

front_is : (t : List ℕ) (P : Pointer) → text.front_of t P ≡ front_of t P
front_is t [] = refl
front_is t (u ∷ P) = ap (λ Q. t ∷ Q) (front_is u P)

last_is : (t : List ℕ) (P : Pointer) → text.last_of t P ≡ last_of t P
last_is t [] = refl
last_is t (u ∷ P) = last_is u P

through : (f g : Json → Option Json) (o : Option Json) → ((c : Json) → f c ≡ g c) → option_and_then f o ≡ option_and_then g o
through f g None h = refl
through f g (Some c) h = h c

pub added_is : (P : Pointer) (w j : Json) → text.add_at P w j ≡ added P w j
added_is [] w j = refl
added_is (t ∷ P) w j =
    ap₂ (λ F k. option_and_then (λ c. option_map (λ d. put_at F d j) (text.add_child k w c)) (tree_at F j)) (front_is t P) (last_is t P)
    ∙ through (λ c. option_map (λ d. put_at (front_of t P) d j) (text.add_child (last_of t P) w c)) (λ c. option_map (λ d. put_at (front_of t P) d j) (add_child w (last_of t P) c)) (tree_at (front_of t P) j)
    (λ c. ap (option_map (λ d. put_at (front_of t P) d j)) (add_child_is (last_of t P) w c))

pub no_place : (text : List ℕ) (P : Pointer) (w i : Json) → Says text i → HasNoPlace text P → added P w i ≡ None
no_place text P w i says (j, said, none) = subst (λ x. added P w x ≡ None) (one_tree text j i said says) (sym (added_is P w j) ∙ none w)

-- ---- replace

pub replaced_there : (P : Pointer) (w j v : Json) → tree_at P j ≡ Some v → replaced P w j ≡ Some (put_at P w j)
replaced_there P w j v e = ap (option_map (λ old. put_at P w j)) e

pub replaced_nowhere : (text : List ℕ) (P : Pointer) (w i : Json) → Says text i → LeadsNowhere text P → replaced P w i ≡ None
replaced_nowhere text P w i says (j, said, none) = subst (λ x. replaced P w x ≡ None) (one_tree text j i said says) (ap (option_map (λ old. put_at P w j)) none)

-- ---- remove

remove_element_is : (n : ℕ) (js : Items) → text.remove_element n js ≡ remove_element n js
remove_element_is n no_items = refl
remove_element_is zero (item j js) = refl
remove_element_is (suc n) (item j js) = ap (item j) (remove_element_is n js)

without_is : (k : List ℕ) (ms : Members) → text.without k ms ≡ without k ms
without_is k no_members = refl
without_is k (member l j ms) = ap (λ ns. cond (bytes_eq l k) ns (member l j ns)) (without_is k ms)

by_place : (js : Items) (o : Option ℕ) → if_some o (λ n. text.remove_element n js) js ≡ if_some o (λ n. remove_element n js) js
by_place js None = refl
by_place js (Some n) = remove_element_is n js

remove_child_is : (t : List ℕ) (j : Json) → text.remove_child t j ≡ remove_child t j
remove_child_is t null = refl
remove_child_is t (boolean b) = refl
remove_child_is t (number s) = refl
remove_child_is t (string s) = refl
remove_child_is t (array js) = ap array (by_place js (place_of t))
remove_child_is t (object ms) = ap object (without_is t ms)

-- what is cut out stood there
had : (n : ℕ) (s : List ℕ) (v : Json) (t new : List ℕ) → Says s v → AreCutOut (suc n) s v t new → (c : Json) × (tree_at (t ∷ []) v ≡ Some c)
had zero s v t new says (less, w, e, said, cut) =
    (cut.stood.0, subst (λ x. tree_at (t ∷ []) x ≡ Some cut.stood.0) (one_tree less w v said (subst (λ x. Says x v) (sym e) says)) cut.stood.1)
had (suc n) s v t new says (less, w, cuts, said, cut) = had n s v t less says cuts

child_of : (o : Option Json) (c : Json) → option_and_then (tree_at []) o ≡ Some c → o ≡ Some c
child_of None c e = absurd (none-some c e)
child_of (Some j) c e = e

front_end : (u : List ℕ) (F : Pointer) (t : List ℕ) → front_of u (F ++ (t ∷ [])) ≡ u ∷ F
front_end u [] t = refl
front_end u (w ∷ F) t = ap (λ P. u ∷ P) (front_end w F t)

last_end : (u : List ℕ) (F : Pointer) (t : List ℕ) → last_of u (F ++ (t ∷ [])) ≡ t
last_end u [] t = refl
last_end u (w ∷ F) t = last_end w F t

removed_below : (F : Pointer) (t : List ℕ) (j : Json) → removed (F ++ (t ∷ [])) j ≡ changed (take_child t) F j
removed_below [] t j = refl
removed_below (u ∷ F) t j = ap₂ (λ Q k. changed (take_child k) Q j) (front_end u F t) (last_end u F t)

removed_there : (F : Pointer) (t : List ℕ) (j v c : Json) → tree_at F j ≡ Some v → child t v ≡ Some c → removed (F ++ (t ∷ [])) j ≡ Some (put_at F (remove_child t v) j)
removed_there F t j v c e h =
    removed_below F t j ∙ ap (option_and_then (λ x. option_map (λ d. put_at F d j) (take_child t x))) e ∙ ap (λ o. option_map (λ d. put_at F d j) (option_map (λ old. remove_child t v) o)) h

remove_at_is : (F : Pointer) (t : List ℕ) (j v : Json) → tree_at F j ≡ Some v → text.remove_at (F ++ (t ∷ [])) j ≡ put_at F (remove_child t v) j
remove_at_is [] t j v e = ap (text.remove_child t) (same_Some j v e) ∙ remove_child_is t v
remove_at_is (u ∷ F) t j v e =
    ap₂ (λ Q k. if_some (tree_at Q j) (λ c. put_at Q (text.remove_child k c) j) j) (front_is u (F ++ (t ∷ [])) ∙ front_end u F t) (last_is u (F ++ (t ∷ [])) ∙ last_end u F t)
    ∙ ap (λ o. if_some o (λ c. put_at (u ∷ F) (text.remove_child t c) j) j) e
    ∙ ap (λ d. put_at (u ∷ F) d j) (remove_child_is t v)

removed_is : (P F : Pointer) (t : List ℕ) (j v c : Json) (new : List ℕ) → P ≡ F ++ (t ∷ []) → tree_at F j ≡ Some v → child t v ≡ Some c → Says new (text.remove_at P j)
    → (removed P j ≡ Some (put_at F (remove_child t v) j)) × Says new (put_at F (remove_child t v) j)
removed_is P F t j v c new split e h said =
    (ap (λ Q. removed Q j) split ∙ removed_there F t j v c e h, subst (Says new) (ap (λ Q. text.remove_at Q j) split ∙ remove_at_is F t j v e) said)

-- what the text says after a removal
pub removed_tree : (text : List ℕ) (P : Pointer) (new : List ℕ) (i : Json) → Says text i → IsRemoved text P new → (m : Json) × (removed P i ≡ Some m) × Says new m × (depth m ≤ depth i)
removed_tree text P new i says r =
    let there = had r.others r.at.own r.at.parent r.at.last r.less r.at.stood.says r.cut in
    let stood : child r.at.last r.at.parent ≡ Some there.0 = child_of (child r.at.last r.at.parent) there.0 there.1 in
    let done = removed_is P r.at.front r.at.last r.tree r.at.parent there.0 new r.at.split r.at.leads stood r.after in
    let m = put_at r.at.front (remove_child r.at.last r.at.parent) r.tree in
    let before = nests text i says in
    let behind = nests new m done.1 in
    let lower : nesting new ≤ nesting text = removed_nests text new P r in
    (m, subst (λ x. removed P x ≡ Some m) (one_tree text r.tree i r.says.0 says) done.0, done.1, omega arith)

alone : (o : Option Json) → option_and_then (tree_at []) o ≡ o
alone None = refl
alone (Some v) = refl

tree_below : (t : List ℕ) (P : Pointer) (j : Json) → tree_at (t ∷ P) j ≡ option_and_then (child (last_of t P)) (tree_at (front_of t P) j)
tree_below t [] j = alone (child t j)
tree_below t (u ∷ P) j = by (child t j) (λ c. tree_below u P c)
  where
    by : (o : Option Json) → ((c : Json) → tree_at (u ∷ P) c ≡ option_and_then (child (last_of u P)) (tree_at (front_of u P) c))
        → option_and_then (tree_at (u ∷ P)) o ≡ option_and_then (child (last_of u P)) (option_and_then (tree_at (front_of u P)) o)
    by None more = refl
    by (Some c) more = more c

nothing_taken : (l : List ℕ) (F : Pointer) (j : Json) (o : Option Json) → option_and_then (child l) o ≡ None → option_and_then (λ c. option_map (λ e. put_at F e j) (take_child l c)) o ≡ None
nothing_taken l F j None h = refl
nothing_taken l F j (Some v) h = ap (λ o. option_map (λ e. put_at F e j) (option_map (λ old. remove_child l v) o)) h

pub removed_nowhere : (P : Pointer) (j : Json) → tree_at P j ≡ None → removed P j ≡ None
removed_nowhere [] j e = refl
removed_nowhere (t ∷ P) j e = nothing_taken (last_of t P) (front_of t P) j (tree_at (front_of t P) j) (sym (tree_below t P j) ∙ e)

pub removed_nothing : (text : List ℕ) (P : Pointer) (i : Json) → Says text i → HasNothingToRemove text P → removed P i ≡ None
removed_nothing text P i says (inl (j, said, none)) = subst (λ x. removed P x ≡ None) (one_tree text j i said says) (removed_nowhere P j none)
removed_nothing text P i says (inr root) = ap (λ Q. removed Q i) root
