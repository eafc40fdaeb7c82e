-- A change of a tree at one step, and of its document.
use Rattle.std.proofs.Common.{◌≡◌, ℕ, zero, suc, List, Some, Bool, true, false, bytes_eq, option_map, refl, sym, ap, ◌∙◌, subst}
use Rattle.std.proofs.lemmas.Bool.{false≢true}
use Rattle.std.proofs.lemmas.Slice.Eq.{bytes_eq-Decides}
use Rattle.json.specs.Json as json
use Rattle.json.specs.Json.{Json}
use Rattle.json.specs.Find as tree
use Rattle.serde_json.specs.Data.{object, item, Members, no_members, put}
use Rattle.serde_json.specs.Events.{items_len}
use Rattle.serde_json.specs.Find.{get_member}
use Rattle.serde_json.proofs.Views.{get_member-put, get_member-put_other}
use Rattle.json_patch_document.specs.ChangeComputed as change
use Rattle.json_patch_document.specs.Document.{AreMembers}
use Rattle.json_patch_document.proofs.Members.{put_members, without_members, get_without, get_without_other}
use Rattle.json_text.specs.Pointed.{put_element, put_member}
use Rattle.json_reading.specs.Reading.{Reading}
use Rattle.json_reading.specs.Trees.{data_of, elements_of, members_of}
use Rattle.json_reading.proofs.Documents.{IsDocument-data_of, members_are, found, one_object}
use Rattle.json_patch_text.specs.Changed.{count, insert_element, remove_element, add_member, without}
use Rattle.json_patch_text.proofs.Members.{put_here, put_other, add_here, add_other, remove_here, remove_other}

-- ---- objects

by_name : (P : List ℕ → Type 0) (k q : List ℕ) (b : Bool) → bytes_eq k q ≡ b → P k → ((q ≡ k → ⊥) → P q) → P q
by_name P k q true e here other = subst P ((bytes_eq-Decides k q).0 e) here
by_name P k q false e here other = other (λ h. false≢true (sym e ∙ (bytes_eq-Decides k q).1 (sym h)))

-- an object with the same at k as a tree, and the same at each other name, is its document
object_is : (r : Reading) (k : List ℕ) (ms : Members) (ns : json.Members) → AreMembers ms → get_member k ms ≡ option_map (data_of r) (tree.get_member k ns)
    → ((q : List ℕ) → (q ≡ k → ⊥) → get_member q ms ≡ option_map (data_of r) (tree.get_member q ns)) → object ms ≡ data_of r (json.object ns)
object_is r k ms ns h here other =
    one_object ms (members_of r ns no_members) h (members_are r ns)
    (λ q. by_name (λ n. get_member n ms ≡ option_map (data_of r) (tree.get_member n ns)) k q (bytes_eq k q) refl here (other q) ∙ sym (found r q ns))

pub put_object : (r : Reading) (k : List ℕ) (w c : Json) (ms : json.Members) → tree.get_member k ms ≡ Some c → object (put k (data_of r w) (members_of r ms no_members)) ≡ data_of r (json.object (put_member k w ms))
put_object r k w c ms at =
    object_is r k _ (put_member k w ms) (put_members k (data_of r w) (members_of r ms no_members) (members_are r ms) (IsDocument-data_of r w))
    (get_member-put k (data_of r w) (members_of r ms no_members) ∙ sym (ap (option_map (data_of r)) (put_here k w c ms at)))
    (λ q n. get_member-put_other q k (data_of r w) (members_of r ms no_members) n ∙ found r q ms ∙ sym (ap (option_map (data_of r)) (put_other q k w ms n)))

pub add_object : (r : Reading) (k : List ℕ) (w : Json) (ms : json.Members) → object (put k (data_of r w) (members_of r ms no_members)) ≡ data_of r (json.object (add_member k w ms))
add_object r k w ms =
    object_is r k _ (add_member k w ms) (put_members k (data_of r w) (members_of r ms no_members) (members_are r ms) (IsDocument-data_of r w))
    (get_member-put k (data_of r w) (members_of r ms no_members) ∙ sym (ap (option_map (data_of r)) (add_here k w ms)))
    (λ q n. get_member-put_other q k (data_of r w) (members_of r ms no_members) n ∙ found r q ms ∙ sym (ap (option_map (data_of r)) (add_other q k w ms n)))

pub remove_object : (r : Reading) (k : List ℕ) (ms : json.Members) → object (change.without k (members_of r ms no_members)) ≡ data_of r (json.object (without k ms))
remove_object r k ms =
    object_is r k _ (without k ms) (without_members k (members_of r ms no_members) (members_are r ms))
    (get_without k (members_of r ms no_members) (members_are r ms) ∙ sym (ap (option_map (data_of r)) (remove_here k ms)))
    (λ q n. get_without_other q k (members_of r ms no_members) n ∙ found r q ms ∙ sym (ap (option_map (data_of r)) (remove_other q k ms n)))

-- ---- arrays

pub count_is : (r : Reading) (js : json.Items) → items_len (elements_of r js) ≡ count js
count_is r json.no_items = refl
count_is r (json.item j js) = ap suc (count_is r js)

pub put_elements : (r : Reading) (n : ℕ) (w : Json) (js : json.Items) → change.set_item n (data_of r w) (elements_of r js) ≡ elements_of r (put_element n w js)
put_elements r n w json.no_items = refl
put_elements r zero w (json.item j js) = refl
put_elements r (suc n) w (json.item j js) = ap (item (data_of r j)) (put_elements r n w js)

pub insert_elements : (r : Reading) (n : ℕ) (w : Json) (js : json.Items) → change.insert_item n (data_of r w) (elements_of r js) ≡ elements_of r (insert_element n w js)
insert_elements r n w json.no_items = refl
insert_elements r zero w (json.item j js) = refl
insert_elements r (suc n) w (json.item j js) = ap (item (data_of r j)) (insert_elements r n w js)

pub remove_elements : (r : Reading) (n : ℕ) (js : json.Items) → change.remove_item n (elements_of r js) ≡ elements_of r (remove_element n js)
remove_elements r n json.no_items = refl
remove_elements r zero (json.item j js) = refl
remove_elements r (suc n) (json.item j js) = ap (item (data_of r j)) (remove_elements r n js)
