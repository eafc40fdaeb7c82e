-- Under a reading each tree is a document, and of several members of one name the last stands.
use Rattle.json_patch_document.proofs.Common.{◌≡◌, ℕ, zero, suc, List, Option, Some, None, Bool, true, false, cond, bytes_eq, option_map, refl, sym, ap, ◌∙◌, Data, object, Members, no_members, put, get_member, get_item, IsDocument, AreDocuments, AreMembers, Segment, key, place, child, get_member-put, get_member-put_other, bytes_eq-Decides}
use Rattle.std.proofs.lemmas.Bool.{false≢true}
use Rattle.json.specs.Json as json
use Rattle.json.specs.Find as tree
use Rattle.serde_json.specs.Find as document
use Rattle.json_patch_document.proofs.Children.{one_level}
use Rattle.json_patch_document.proofs.Members.{put_members}
use Rattle.json_reading.specs.Reading.{Reading}
use Rattle.json_reading.specs.Trees.{data_of, elements_of, members_of}

mutual
  pub IsDocument-data_of : (r : Reading) (j : json.Json) → IsDocument (data_of r j)
  IsDocument-data_of r json.null = tt
  IsDocument-data_of r (json.boolean b) = tt
  IsDocument-data_of r (json.number s) = r.whole s
  IsDocument-data_of r (json.string s) = tt
  IsDocument-data_of r (json.array js) = documents r js
  IsDocument-data_of r (json.object ms) = are_members r ms no_members tt

  documents : (r : Reading) (js : json.Items) → AreDocuments (elements_of r js)
  documents r json.no_items = tt
  documents r (json.item j js) = (IsDocument-data_of r j, documents r js)

  are_members : (r : Reading) (ms : json.Members) (before : Members) → AreMembers before → AreMembers (members_of r ms before)
  are_members r json.no_members before h = h
  are_members r (json.member k j ms) before h = are_members r ms (put k (data_of r j) before) (put_members k (data_of r j) before h (IsDocument-data_of r j))

pub members_are : (r : Reading) (ms : json.Members) → AreMembers (members_of r ms no_members)
members_are r ms = are_members r ms no_members tt

-- ---- members by their names

abbrev or_before : Option Data → Option Data → Option Data
or_before None b = b
or_before (Some d) b = Some d

alone : (o : Option Data) → or_before o None ≡ o
alone None = refl
alone (Some d) = refl

one_more : (r : Reading) (o : Option json.Json) (b : Bool) (j : json.Json) (x y : Option Data) → (b ≡ true → x ≡ Some (data_of r j)) → (b ≡ false → x ≡ y)
    → or_before (option_map (data_of r) o) x ≡ or_before (option_map (data_of r) (tree.later_or o (cond b (Some j) None))) y
one_more r (Some i) b j x y f g = refl
one_more r None true j x y f g = f refl
one_more r None false j x y f g = g refl

found_after : (r : Reading) (k : List ℕ) (ms : json.Members) (before : Members) → get_member k (members_of r ms before) ≡ or_before (option_map (data_of r) (tree.get_member k ms)) (get_member k before)
found_after r k json.no_members before = refl
found_after r k (json.member l j ms) before =
    found_after r k ms (put l (data_of r j) before)
    ∙ one_more r (tree.get_member k ms) (bytes_eq l k) j _ _
    (λ e. ap (λ n. get_member n (put l (data_of r j) before)) (sym ((bytes_eq-Decides l k).0 e)) ∙ get_member-put l (data_of r j) before)
    (λ e. get_member-put_other k l (data_of r j) before (λ same. false≢true (sym e ∙ (bytes_eq-Decides l k).1 (sym same))))

-- what is found at a name in the document is what is found at it in the tree
pub found : (r : Reading) (k : List ℕ) (ms : json.Members) → get_member k (members_of r ms no_members) ≡ option_map (data_of r) (tree.get_member k ms)
found r k ms = found_after r k ms no_members ∙ alone (option_map (data_of r) (tree.get_member k ms))

-- objects with the same at each name are one
pub one_object : (ms ns : Members) → AreMembers ms → AreMembers ns → ((k : List ℕ) → get_member k ms ≡ get_member k ns) → object ms ≡ object ns
one_object ms ns h g same = one_level (object ms) (object ns) h g refl at_step
  where
    at_step : (s : Segment) → child s (object ms) ≡ child s (object ns)
    at_step (key k) = same k
    at_step (place i) = refl

-- ---- what stands at a step

pub found_element : (r : Reading) (i : ℕ) (js : json.Items) → get_item i (elements_of r js) ≡ option_map (data_of r) (tree.get_item i js)
found_element r i json.no_items = refl
found_element r zero (json.item j js) = refl
found_element r (suc i) (json.item j js) = found_element r i js

pub at_name : (r : Reading) (k : List ℕ) (j : json.Json) → document.get k (data_of r j) ≡ option_map (data_of r) (tree.get k j)
at_name r k json.null = refl
at_name r k (json.boolean b) = refl
at_name r k (json.number s) = refl
at_name r k (json.string s) = refl
at_name r k (json.array js) = refl
at_name r k (json.object ms) = found r k ms

pub at_place : (r : Reading) (i : ℕ) (j : json.Json) → document.at i (data_of r j) ≡ option_map (data_of r) (tree.at i j)
at_place r i json.null = refl
at_place r i (json.boolean b) = refl
at_place r i (json.number s) = refl
at_place r i (json.string s) = refl
at_place r i (json.array js) = found_element r i js
at_place r i (json.object ms) = refl
