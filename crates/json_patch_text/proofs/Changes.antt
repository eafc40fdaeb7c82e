-- What a change leaves of a tree, and of its document.
use Rattle.std.proofs.Common.{◌≡◌, ℕ, List, [], ◌∷◌, Option, Some, None, option_map, option_and_then, refl, ap, ◌∙◌}
use Rattle.json.specs.Json.{Json, null, boolean, number, string, array, object, Items}
use Rattle.json.specs.Find.{get_member, get_item}
use Rattle.jsonptr.specs.Places.{place_of}
use Rattle.jsonptr.specs.Text.{Pointer}
use Rattle.serde_json.specs.Data as value
use Rattle.serde_json.specs.Data.{Data}
use Rattle.json_patch_document.specs.Document as document
use Rattle.json_patch_document.specs.ChangeComputed as change
use Rattle.json_patch_document.specs.ChangeComputed.{pointee, after_change, after_add, after_remove, after_replace, slot_in, front_of, last_of}
use Rattle.json_text.specs.Pointed.{child, tree_at, if_some, put_element, put_child, put_at}
use Rattle.json_reading.specs.Reading.{Reading}
use Rattle.json_reading.specs.Trees.{data_of, elements_of, members_of}
use Rattle.json_reading.proofs.Documents.{found, found_element}
use Rattle.json_patch_text.specs.Changed.{count, insert_element, remove_element, add_child, remove_child, take_child, changed, replaced, added, removed}
use Rattle.json_patch_text.proofs.Steps.{put_object, add_object, remove_object, count_is, put_elements, insert_elements, remove_elements}

-- ---- where a pointer leads

leads_on : (r : Reading) (o : Option Json) (u : Option Data) (f : Json → Option Json) (g : Data → Option Data) → u ≡ option_map (data_of r) o → ((c : Json) → g (data_of r c) ≡ option_map (data_of r) (f c))
    → option_and_then g u ≡ option_map (data_of r) (option_and_then f o)
leads_on r None u f g e h = ap (option_and_then g) e
leads_on r (Some c) u f g e h = ap (option_and_then g) e ∙ h c

pointee_element : (r : Reading) (js : Items) (o : Option ℕ) (f : Json → Option Json) (g : Data → Option Data) → ((c : Json) → g (data_of r c) ≡ option_map (data_of r) (f c))
    → option_and_then (λ s. option_and_then g (document.child s (value.array (elements_of r js)))) (option_map document.place o) ≡ option_map (data_of r) (option_and_then f (option_and_then (λ n. get_item n js) o))
pointee_element r js None f g h = refl
pointee_element r js (Some n) f g h = leads_on r (get_item n js) _ f g (found_element r n js) h

pub pointee_is : (r : Reading) (P : Pointer) (j : Json) → pointee (data_of r j) P ≡ option_map (data_of r) (tree_at P j)
pointee_is r [] j = refl
pointee_is r (t ∷ P) null = refl
pointee_is r (t ∷ P) (boolean b) = refl
pointee_is r (t ∷ P) (number s) = refl
pointee_is r (t ∷ P) (string s) = refl
pointee_is r (t ∷ P) (array js) = pointee_element r js (place_of t) (tree_at P) (λ c. pointee c P) (λ c. pointee_is r P c)
pointee_is r (t ∷ P) (object ms) = leads_on r (get_member t ms) _ (tree_at P) (λ c. pointee c P) (found r t ms) (λ c. pointee_is r P c)

-- ---- a change

-- what a change leaves, on the way down
abbrev change_at : (Json → Option Json) → Pointer → Json → Option Json
change_at f [] j = f j
change_at f (t ∷ P) j = option_and_then (λ c. option_map (λ e. put_child t e j) (change_at f P c)) (child t j)

alone : (o : Option Json) → o ≡ option_map (λ e. e) o
alone None = refl
alone (Some j) = refl

twice : (g h : Json → Json) (o : Option Json) → option_map g (option_map h o) ≡ option_map (λ e. g (h e)) o
twice g h None = refl
twice g h (Some j) = refl

put_below : (t : List ℕ) (P : Pointer) (f : Json → Option Json) (c j : Json) (o : Option Json)
    → option_map (λ e. put_child t e j) (option_and_then (λ x. option_map (λ e. put_at P e c) (f x)) o) ≡ option_and_then (λ x. option_map (λ e. put_child t (put_at P e c) j) (f x)) o
put_below t P f c j None = refl
put_below t P f c j (Some x) = twice (λ e. put_child t e j) (λ e. put_at P e c) (f x)

one_down : (t : List ℕ) (P : Pointer) (f : Json → Option Json) (j : Json) (o : Option Json) → ((c : Json) → change_at f P c ≡ changed f P c)
    → option_and_then (λ c. option_map (λ e. put_child t e j) (change_at f P c)) o
    ≡ option_and_then (λ x. option_map (λ e. if_some o (λ c. put_child t (put_at P e c) j) j) (f x)) (option_and_then (tree_at P) o)
one_down t P f j None h = refl
one_down t P f j (Some c) h = ap (option_map (λ e. put_child t e j)) (h c) ∙ put_below t P f c j (tree_at P c)

change_is : (f : Json → Option Json) (P : Pointer) (j : Json) → change_at f P j ≡ changed f P j
change_is f [] j = alone (f j)
change_is f (t ∷ P) j = one_down t P f j (child t j) (λ c. change_is f P c)

mapped : (r : Reading) (o : Option Json) (D : Data → Data) (J : Json → Json) → ((e : Json) → D (data_of r e) ≡ data_of r (J e)) → option_map D (option_map (data_of r) o) ≡ option_map (data_of r) (option_map J o)
mapped r None D J h = refl
mapped r (Some e) D J h = ap Some (h e)

changed_on : (r : Reading) (o : Option Json) (u : Option Data) (f : Json → Option Json) (g : Data → Option Data) (D : Data → Data) (J : Json → Json) → u ≡ option_map (data_of r) o
    → ((c : Json) → g (data_of r c) ≡ option_map (data_of r) (f c)) → ((c e : Json) → o ≡ Some c → D (data_of r e) ≡ data_of r (J e))
    → option_and_then (λ c. option_map D (g c)) u ≡ option_map (data_of r) (option_and_then (λ c. option_map J (f c)) o)
changed_on r None u f g D J e h k = ap (option_and_then (λ c. option_map D (g c))) e
changed_on r (Some c) u f g D J e h k = ap (option_and_then (λ c. option_map D (g c))) e ∙ ap (option_map D) (h c) ∙ mapped r (f c) D J (λ x. k c x refl)

changed_element : (r : Reading) (js : Items) (o : Option ℕ) (f : Json → Option Json) (g : Data → Option Data) → ((c : Json) → g (data_of r c) ≡ option_map (data_of r) (f c))
    → option_and_then (λ s. option_and_then (λ c. option_map (λ e. change.set_child s e (value.array (elements_of r js))) (g c)) (document.child s (value.array (elements_of r js)))) (option_map document.place o)
    ≡ option_map (data_of r) (option_and_then (λ c. option_map (λ e. array (if_some o (λ n. put_element n e js) js)) (f c)) (option_and_then (λ n. get_item n js) o))
changed_element r js None f g h = refl
changed_element r js (Some n) f g h =
    changed_on r (get_item n js) _ f g (λ e. value.array (change.set_item n e (elements_of r js))) (λ e. array (put_element n e js)) (found_element r n js) h (λ c e at. ap value.array (put_elements r n e js))

down : (r : Reading) (f : Json → Option Json) (g : Data → Option Data) → ((c : Json) → g (data_of r c) ≡ option_map (data_of r) (f c)) → (P : Pointer) (j : Json)
    → after_change g (data_of r j) P ≡ option_map (data_of r) (change_at f P j)
down r f g h [] j = h j
down r f g h (t ∷ P) null = refl
down r f g h (t ∷ P) (boolean b) = refl
down r f g h (t ∷ P) (number s) = refl
down r f g h (t ∷ P) (string s) = refl
down r f g h (t ∷ P) (array js) = changed_element r js (place_of t) (change_at f P) (λ c. after_change g c P) (λ c. down r f g h P c)
down r f g h (t ∷ P) (object ms) =
    changed_on r (get_member t ms) _ (change_at f P) (λ c. after_change g c P) (λ e. value.object (value.put t e (members_of r ms value.no_members))) (λ e. put_child t e (object ms))
    (found r t ms) (λ c. down r f g h P c) (λ c e at. put_object r t e c ms at)

pub changed_is : (r : Reading) (f : Json → Option Json) (g : Data → Option Data) → ((c : Json) → g (data_of r c) ≡ option_map (data_of r) (f c)) → (P : Pointer) (j : Json)
    → after_change g (data_of r j) P ≡ option_map (data_of r) (changed f P j)
changed_is r f g h P j = down r f g h P j ∙ ap (option_map (data_of r)) (change_is f P j)

as_map : (j : Json) (o : Option Json) → option_and_then (λ c. Some j) o ≡ option_map (λ c. j) o
as_map j None = refl
as_map j (Some c) = refl

pub replaced_is : (r : Reading) (P : Pointer) (w j : Json) → after_replace (data_of r j) P (data_of r w) ≡ option_map (data_of r) (replaced P w j)
replaced_is r P w j = changed_is r (λ x. Some w) (λ c. Some (data_of r w)) (λ c. refl) P j ∙ ap (option_map (data_of r)) (as_map (put_at P w j) (tree_at P j))

-- ---- add

add_element : (r : Reading) (w : Json) (js : Items) (o : Option ℕ)
    → option_map (λ i. value.array (change.insert_item i (data_of r w) (elements_of r js))) o ≡ option_map (data_of r) (option_map (λ i. array (insert_element i w js)) o)
add_element r w js None = refl
add_element r w js (Some i) = ap (λ ds. Some (value.array ds)) (insert_elements r i w js)

add_child_is : (r : Reading) (w : Json) (t : List ℕ) (j : Json) → change.put_in (data_of r w) t (data_of r j) ≡ option_map (data_of r) (add_child w t j)
add_child_is r w t null = refl
add_child_is r w t (boolean b) = refl
add_child_is r w t (number s) = refl
add_child_is r w t (string s) = refl
add_child_is r w t (array js) = ap (λ n. option_map (λ i. value.array (change.insert_item i (data_of r w) (elements_of r js))) (slot_in t n)) (count_is r js) ∙ add_element r w js (slot_in t (count js))
add_child_is r w t (object ms) = ap Some (add_object r t w ms)

pub added_is : (r : Reading) (P : Pointer) (w j : Json) → after_add (data_of r j) P (data_of r w) ≡ option_map (data_of r) (added P w j)
added_is r [] w j = refl
added_is r (t ∷ P) w j = changed_is r (add_child w (last_of t P)) (change.put_in (data_of r w) (last_of t P)) (add_child_is r w (last_of t P)) (front_of t P) j

-- ---- remove

taken : (r : Reading) (o : Option Json) (u : Option Data) (d : Data) (j : Json) → u ≡ option_map (data_of r) o → d ≡ data_of r j → option_map (λ c. d) u ≡ option_map (data_of r) (option_map (λ c. j) o)
taken r None u d j e h = ap (option_map (λ c. d)) e
taken r (Some c) u d j e h = ap (option_map (λ c. d)) e ∙ ap Some h

take_element : (r : Reading) (js : Items) (o : Option ℕ)
    → option_and_then (λ s. option_map (λ c. change.drop_child s (value.array (elements_of r js))) (document.child s (value.array (elements_of r js)))) (option_map document.place o)
    ≡ option_map (data_of r) (option_map (λ c. array (if_some o (λ n. remove_element n js) js)) (option_and_then (λ n. get_item n js) o))
take_element r js None = refl
take_element r js (Some n) = taken r (get_item n js) _ _ (array (remove_element n js)) (found_element r n js) (ap value.array (remove_elements r n js))

take_child_is : (r : Reading) (t : List ℕ) (j : Json) → change.take_from t (data_of r j) ≡ option_map (data_of r) (take_child t j)
take_child_is r t null = refl
take_child_is r t (boolean b) = refl
take_child_is r t (number s) = refl
take_child_is r t (string s) = refl
take_child_is r t (array js) = take_element r js (place_of t)
take_child_is r t (object ms) = taken r (get_member t ms) _ _ (remove_child t (object ms)) (found r t ms) (remove_object r t ms)

pub removed_is : (r : Reading) (P : Pointer) (j : Json) → after_remove (data_of r j) P ≡ option_map (data_of r) (removed P j)
removed_is r [] j = refl
removed_is r (t ∷ P) j = changed_is r (take_child (last_of t P)) (change.take_from (last_of t P)) (take_child_is r (last_of t P)) (front_of t P) j
