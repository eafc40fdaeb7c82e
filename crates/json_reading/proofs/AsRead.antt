-- A tree that is read as a document is that document under each reading.
use Rattle.std.proofs.Common.{◌≡◌, ℕ, List, Option, Some, None, Bool, true, false, cond, bytes_eq, option_map, option_and_then, refl, sym, ap, ap₂, ◌∙◌, subst}
use Rattle.std.proofs.lemmas.Bool.{false≢true}
use Rattle.std.proofs.lemmas.Option.{none-some, same_Some}
use Rattle.std.proofs.lemmas.Slice.Eq.{bytes_eq-Decides}
use Rattle.json.specs.Json as json
use Rattle.json.specs.Json.{Json}
use Rattle.json.specs.Find as tree
use Rattle.serde_json.specs.Data.{Num, Data, null, boolean, number, string, array, object, Items, no_items, item, Members, no_members, put}
use Rattle.serde_json.specs.Find.{get_member}
use Rattle.serde_json.specs.Read.{number_of, of_json, of_items, of_members}
use Rattle.serde_json.proofs.Views.{get_member-put, get_member-put_other}
use Rattle.json_patch_document.specs.Document.{IsDocument, AreDocuments, AreMembers}
use Rattle.json_patch_document.proofs.Members.{member_document}
use Rattle.json_reading.specs.Reading.{Reading}
use Rattle.json_reading.specs.Trees.{data_of, elements_of, members_of}
use Rattle.json_reading.proofs.Documents.{members_are, found, one_object}

-- ---- the members that are read

one_more : (j : Json) (ms : json.Members) (before out : Members) (l : List ℕ) (o : Option Data) → of_json j ≡ o → option_and_then (λ d. of_members ms (put l d before)) o ≡ Some out
    → (d : Data) × (of_json j ≡ Some d) × (of_members ms (put l d before) ≡ Some out)
one_more j ms before out l None e h = absurd (none-some out h)
one_more j ms before out l (Some d) e h = (d, e, h)

no_other : (k l : List ℕ) (j : Json) (o : Option Json) (b : Bool) → bytes_eq l k ≡ b → tree.later_or o (cond b (Some j) None) ≡ None → (o ≡ None) × (k ≡ l → ⊥)
no_other k l j None true e h = absurd (none-some j (sym h))
no_other k l j None false e h = (refl, λ same. false≢true (sym e ∙ (bytes_eq-Decides l k).1 (sym same)))
no_other k l j (Some i) b e h = absurd (none-some i (sym h))

not_there : (k : List ℕ) (ms : json.Members) (before out : Members) → of_members ms before ≡ Some out → tree.get_member k ms ≡ None → get_member k out ≡ get_member k before
not_there k json.no_members before out h none = ap (get_member k) (sym (same_Some before out h))
not_there k (json.member l j ms) before out h none =
    let (d, is, more) = one_more j ms before out l (of_json j) refl h in
    let n = no_other k l j (tree.get_member k ms) (bytes_eq l k) refl none in
    not_there k ms (put l d before) out more n.0 ∙ get_member-put_other k l d before n.1

abbrev IsThere : List ℕ → Json → Members → Type 0
IsThere k i out = (d : Data) × (of_json i ≡ Some d) × (get_member k out ≡ Some d)

there_step : (k l : List ℕ) (j i : Json) (d : Data) (before out : Members) (o : Option Json) (b : Bool) → bytes_eq l k ≡ b → of_json j ≡ Some d → tree.later_or o (cond b (Some j) None) ≡ Some i
    → (o ≡ Some i → IsThere k i out) → (o ≡ None → get_member k out ≡ get_member k (put l d before)) → IsThere k i out
there_step k l j i d before out (Some x) b e is at later here = later at
there_step k l j i d before out None true e is at later here =
    let same : l ≡ k = (bytes_eq-Decides l k).0 e in
    (d, ap of_json (sym (same_Some j i at)) ∙ is, here refl ∙ subst (λ n. get_member n (put l d before) ≡ Some d) same (get_member-put l d before))
there_step k l j i d before out None false e is at later here = absurd (none-some i at)

there : (k : List ℕ) (i : Json) (ms : json.Members) (before out : Members) → of_members ms before ≡ Some out → tree.get_member k ms ≡ Some i → IsThere k i out
there k i json.no_members before out h at = absurd (none-some i at)
there k i (json.member l j ms) before out h at =
    let (d, is, more) = one_more j ms before out l (of_json j) refl h in
    there_step k l j i d before out (tree.get_member k ms) (bytes_eq l k) refl is at (there k i ms (put l d before) out more) (not_there k ms (put l d before) out more)

-- ---- under a reading

abbrev IsReadAs : Reading → Json → Type 0
IsReadAs r j = (d : Data) → of_json j ≡ Some d → IsDocument d → data_of r j ≡ d

number_as : (r : Reading) (s : List ℕ) (o : Option Num) (d : Data) → number_of s ≡ o → option_map number o ≡ Some d → IsDocument d → number (r.of s) ≡ d
number_as r s None d e h w = absurd (none-some d h)
number_as r s (Some n) d e h w =
    let f : number n ≡ d = same_Some (number n) d h in
    ap number (r.honest s n e (subst IsDocument (sym f) w)) ∙ f

array_as : (r : Reading) (js : json.Items) (o : Option Items) (d : Data) → of_items js ≡ o → option_map array o ≡ Some d → IsDocument d
    → ((ds : Items) → of_items js ≡ Some ds → AreDocuments ds → elements_of r js ≡ ds) → array (elements_of r js) ≡ d
array_as r js None d e h w more = absurd (none-some d h)
array_as r js (Some ds) d e h w more =
    let f : array ds ≡ d = same_Some (array ds) d h in
    ap array (more ds e (subst IsDocument (sym f) w)) ∙ f

elements_as : (r : Reading) (j : Json) (js : json.Items) (o : Option Data) (p : Option Items) (ds : Items) → of_json j ≡ o → of_items js ≡ p → option_and_then (λ d. option_map (item d) p) o ≡ Some ds → AreDocuments ds
    → IsReadAs r j → ((es : Items) → of_items js ≡ Some es → AreDocuments es → elements_of r js ≡ es) → item (data_of r j) (elements_of r js) ≡ ds
elements_as r j js None p ds e f h w here more = absurd (none-some ds h)
elements_as r j js (Some d) None ds e f h w here more = absurd (none-some ds h)
elements_as r j js (Some d) (Some es) ds e f h w here more =
    let g : item d es ≡ ds = same_Some (item d es) ds h in
    let both = subst AreDocuments (sym g) w in
    ap₂ item (here d e both.0) (more es f both.1) ∙ g

name_as : (r : Reading) (k : List ℕ) (ms : json.Members) (out : Members) (o : Option Json) → of_members ms no_members ≡ Some out → AreMembers out → tree.get_member k ms ≡ o → ((i : Json) → tree.get_member k ms ≡ Some i → IsReadAs r i)
    → option_map (data_of r) (tree.get_member k ms) ≡ get_member k out
name_as r k ms out None h w e each = ap (option_map (data_of r)) e ∙ sym (not_there k ms no_members out h e)
name_as r k ms out (Some i) h w e each =
    let (d, is, at) = there k i ms no_members out h e in
    ap (option_map (data_of r)) e ∙ ap Some (each i e d is (member_document k d out w at)) ∙ sym at

object_as : (r : Reading) (ms : json.Members) (o : Option Members) (d : Data) → of_members ms no_members ≡ o → option_map object o ≡ Some d → IsDocument d → ((k : List ℕ) (i : Json) → tree.get_member k ms ≡ Some i → IsReadAs r i)
    → object (members_of r ms no_members) ≡ d
object_as r ms None d e h w each = absurd (none-some d h)
object_as r ms (Some out) d e h w each =
    let f : object out ≡ d = same_Some (object out) d h in
    let are : AreMembers out = subst IsDocument (sym f) w in
    one_object (members_of r ms no_members) out (members_are r ms) are (λ k. found r k ms ∙ name_as r k ms out (tree.get_member k ms) e are refl (each k)) ∙ f

each_step : (r : Reading) (k l : List ℕ) (j i : Json) (o : Option Json) (b : Bool) → tree.later_or o (cond b (Some j) None) ≡ Some i → (o ≡ Some i → IsReadAs r i) → IsReadAs r j → IsReadAs r i
each_step r k l j i (Some x) b at later here = later at
each_step r k l j i None true at later here = subst (IsReadAs r) (same_Some j i at) here
each_step r k l j i None false at later here = absurd (none-some i at)

mutual
  pub as_read : (r : Reading) (j : Json) → IsReadAs r j
  as_read r json.null d h w = same_Some null d h
  as_read r (json.boolean b) d h w = same_Some (boolean b) d h
  as_read r (json.number s) d h w = number_as r s (number_of s) d refl h w
  as_read r (json.string s) d h w = same_Some (string s) d h
  as_read r (json.array js) d h w = array_as r js (of_items js) d refl h w (λ ds e v. elements_read r js ds e v)
  as_read r (json.object ms) d h w = object_as r ms (of_members ms no_members) d refl h w (λ k i at. each_read r ms k i at)

  elements_read : (r : Reading) (js : json.Items) (ds : Items) → of_items js ≡ Some ds → AreDocuments ds → elements_of r js ≡ ds
  elements_read r json.no_items ds h w = same_Some no_items ds h
  elements_read r (json.item j js) ds h w = elements_as r j js (of_json j) (of_items js) ds refl refl h w (as_read r j) (λ es e v. elements_read r js es e v)

  each_read : (r : Reading) (ms : json.Members) (k : List ℕ) (i : Json) → tree.get_member k ms ≡ Some i → IsReadAs r i
  each_read r json.no_members k i at = absurd (none-some i at)
  each_read r (json.member l j ms) k i at = each_step r k l j i (tree.get_member k ms) (bytes_eq l k) at (each_read r ms k i) (as_read r j)
