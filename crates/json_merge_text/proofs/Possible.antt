-- Each change of a merge can be made: what it needs stands, and nothing nests too deep.
use Rattle.std.specs.Borrow.{Bor}
use Rattle.std.specs.Prelude.{MatchOption}
use Rattle.std.specs.Bool.{Decides}
use Rattle.std.proofs.Common.{◌≡◌, ◌≤◌, ◌<◌, ◌+◌, inl, inr, ℕ, List, [], ◌∷◌, ◌++◌, length, drop, get_or, is_some, Bool, true, false, Global, Option, Some, None, option_map, refl, sym, ap, ◌∙◌, subst, arith, length-append}
use Rattle.std.proofs.lemmas.Option.{none-some, same_Some}
use Rattle.json.specs.Find.{as_object, get_member}
use Rattle.json.specs.Json.{Json, document, null, boolean, number, string, array, object, Members, member, max_depth}
use Rattle.json.specs.Value.{value_view, members_view}
use Rattle.json.specs.declared.value.Value.{Value}
use Rattle.json.specs.Tree.{depth}
use Rattle.jsonptr.specs.Text.{Pointer}
use Rattle.json_merge_text.specs.Changes.{add, replace}
use Rattle.json_merge_text.specs.Merging.{IsChanged, IsWrittenIn, MergesInto, MergesMember}
use Rattle.json_merge_text.specs.Stands.{AgreesAt, IsPutIn, IsUpTo, MayStandAt, StandsAt}
use Rattle.json_merge_text.proofs.Built.{as_meant, last_named, next_merged, next_passed, none_of, some_of}
use Rattle.json_merge_text.proofs.Depths.{add_depth}
use Rattle.json_merge_text.proofs.Merges.{behind, first_named, one_member, replaced_says, written_says, into}
use Rattle.json_merge_text.proofs.Trees.{added_further, further, put_stands}
use Rattle.json_patch_text.specs.Changed.{add_member, added}
use Rattle.json_patch_text.proofs.Agree.{added_is}
use Rattle.json_text.proofs.Depths.{part_inside, put_nests}
use Rattle.json_patch_text.proofs.Made.{add_left}
use Rattle.json_patch_text.proofs.Members.{add_here}
use Rattle.json_text.specs.Added.{HasNoPlace}
use Rattle.json_text.specs.Listing.{shape_of}
use Rattle.json_text.specs.Pointed.{IsWrittenAt, put_at, tree_at}
use Rattle.json_text.specs.Removed.{HasNothingToRemove}
use Rattle.json_text.specs.Replaced.{LeadsNowhere}
use Rattle.json_lexemes.specs.Spelled.{IsShallowText, Says}
use Rattle.json_text.specs.declared.listing.Shape.{Shape}
use Rattle.json_text.specs.declared.listing.Shape.TheVariants.{Object}
use Rattle.json_lexemes.proofs.Nests.{one_tree, read_is}
use Rattle.json_reading.proofs.Matching.{next_member}
use Rattle.json_reading.specs.Same.{SameTree}

-- ---- what is asked for is there

-- what is looked for where something stands is found
pub is_found : (text : List ℕ) (P : Pointer) (v : Json) → StandsAt text P v → (j : Json) × IsShallowText text j × (tree_at P j ≡ None) → ⊥
is_found text P v (i, s, at) (j, t, none) = none-some v (sym (subst (λ x. tree_at P x ≡ None) (one_tree text j i t.0 s.0) none) ∙ at)

-- what is written in the patch is read
pub value_read : (patch : List ℕ) (P : Pointer) (q : Json) (s seen : List ℕ) → StandsAt patch P q → IsWrittenIn patch P s → seen ≡ s → (v : Json) × IsShallowText seen v
value_read patch P q s seen (w, shallow, at) (p, said, (before, behind, is, (v, there, stretch))) same =
    let inside : length P + depth v ≤ depth p = part_inside P p v there in
    let even : depth p ≡ depth w = ap depth (one_tree patch p w said shallow.0) in
    let most : depth w ≤ max_depth = shallow.1 in
    (v, subst (λ t. IsShallowText t v) (sym same) (stretch.says, omega arith))

end_of : (F : Pointer) (k : List ℕ) → F ++ k ∷ [] ≡ [] → ⊥
end_of [] k e = cc
end_of (t ∷ F) k e = cc

there_of : (text : List ℕ) (P : Pointer) (i : Json) → MayStandAt text P (Some i) → StandsAt text P i
there_of text P i (j, F, k, ms, s, way, at, e) = (j, s, ap (λ Q. tree_at Q j) way ∙ further F k j (object ms) at ∙ e)

-- what stands there can be removed and replaced, and what may stand there can be added
pub is_removed : (text : List ℕ) (P : Pointer) (i : Json) → MayStandAt text P (Some i) → HasNothingToRemove text P → ⊥
is_removed text P i m (inl (a, said, none)) =
    let (j, s, at) = there_of text P i m in none-some i (sym (subst (λ x. tree_at P x ≡ None) (one_tree text a j said s.0) none) ∙ at)
is_removed text P i (j, F, k, ms, s, way, at, e) (inr root) = end_of F k (sym way ∙ root)

pub is_replaced : (text : List ℕ) (P : Pointer) (i : Json) → StandsAt text P i → LeadsNowhere text P → ⊥
is_replaced text P i (j, s, at) (a, said, none) = none-some i (sym (subst (λ x. tree_at P x ≡ None) (one_tree text a j said s.0) none) ∙ at)

pub is_added : (text : List ℕ) (P : Pointer) (was : Option Json) (q : Json) → MayStandAt text P was → HasNoPlace text P → ⊥
is_added text P was q (j, F, k, ms, s, way, at, e) (a, said, none) =
    let nothing = sym (subst (λ x. added P q x ≡ None) (one_tree text a j said s.0) (sym (added_is P q a) ∙ none q)) in
    none-some _ (nothing ∙ ap (λ Q. added Q q j) way ∙ added_further F k q j ms at)

-- ---- what stands after a change

-- a place in the patch is no deeper than its text may nest
place_shallow : (patch : List ℕ) (P : Pointer) (q : Json) → StandsAt patch P q → length P + depth q ≤ max_depth
place_shallow patch P q (w, s, at) = let deep = part_inside P w q at in let most : depth w ≤ max_depth = s.1 in omega arith

pub after_replacing : (text patch mid : List ℕ) (P : Pointer) (i q : Json) → StandsAt text P i → StandsAt patch P q → IsPutIn patch P (replace P) text mid → StandsAt mid P q
after_replacing text patch mid P i q (j, s, there) (w, t, at) (v, written, made) =
    let deep = put_nests P q j in
    let below = place_shallow patch P q (w, t, at) in
    let most : depth j ≤ max_depth = s.1 in
    (put_at P q j, (replaced_says text v mid P j q s.0 (written_says patch w t.0 P q v at written) made, omega arith), put_stands P q j i there)

pub after_adding : (text patch mid : List ℕ) (P : Pointer) (q : Json) → MayStandAt text P None → StandsAt patch P q → IsPutIn patch P (add P) text mid → StandsAt mid P q
after_adding text patch mid P q (j, F, k, ms, s, way, there, e) (w, t, at) (v, written, made) =
    let (m, sum, left) = add_left text v mid P j q s.0 (written_says patch w t.0 P q v at written) made in
    let grown = add_member k q ms in
    let m_is : m ≡ put_at F (object grown) j = same_Some m _ (sym sum ∙ ap (λ Q. added Q q j) way ∙ added_further F k q j ms there) in
    let same : depth m ≡ depth (put_at F (object grown) j) = ap depth m_is in
    let deep = put_nests F (object grown) j in
    let more = add_depth k q ms in
    let stood = part_inside F j (object ms) there in
    let below = place_shallow patch P q (w, t, at) in
    let long : length P ≡ length F + 1 = ap length way ∙ length-append F (k ∷ []) in
    let most : depth j ≤ max_depth = s.1 in
    (m, (left, omega arith), ap (λ Q. tree_at Q m) way ∙ further F k m (object grown) (ap (tree_at F) m_is ∙ put_stands F (object grown) j (object ms) there) ∙ add_here k q ms)

-- ---- a member

pub member_there : (text : List ℕ) (P : Pointer) (was : Option Json) (i : Json) → MayStandAt text P was → was ≡ Some i → StandsAt text P i
member_there text P was i h e = there_of text P i (subst (MayStandAt text P) e h)

-- ---- one member after another

pub agrees_first : (text : List ℕ) (P : Pointer) (ms ps : Members) → StandsAt text P (object ms) → AgreesAt text P ps ms
agrees_first text P ms ps (j, s, at) = (j, ms, s, at, λ k q e. refl)

pub agrees_behind : (text : List ℕ) (P : Pointer) (k : List ℕ) (q : Json) (ps is : Members) → AgreesAt text P (member k q ps) is → AgreesAt text P ps is
agrees_behind text P k q ps is (j, ms, s, at, agrees) = (j, ms, s, at, λ l x f. behind k l q x ps (agrees l x) f)

pub member_stands : (text : List ℕ) (P : Pointer) (k : List ℕ) (q : Json) (ps is : Members) → AgreesAt text P ps is → get_member k ps ≡ Some q → MayStandAt text (P ++ k ∷ []) (get_member k is)
member_stands text P k q ps is (j, ms, s, at, agrees) e = (j, P, k, ms, s, refl, at, agrees k q e)

pub member_named : (patch : List ℕ) (P : Pointer) (k : List ℕ) (q : Json) (all : Members) → StandsAt patch P (object all) → get_member k all ≡ Some q → StandsAt patch (P ++ k ∷ []) q
member_named patch P k q all (w, t, at) e = (w, t, further P k w (object all) at ∙ e)

pub agrees_after : (text patch new : List ℕ) (P : Pointer) (k : List ℕ) (q : Json) (ps is : Members) → AgreesAt text P (member k q ps) is → get_member k (member k q ps) ≡ Some q → get_member k ps ≡ None → StandsAt patch (P ++ k ∷ []) q
    → IsChanged text new (MergesMember patch (P ++ k ∷ []) (get_member k is) q (λ i. MergesInto patch (P ++ k ∷ []) i q)) → AgreesAt new P ps is
agrees_after text patch new P k q ps is (j, ms, s, at, agrees) e none (w, t, named) (cs, are, made) =
    let (ns, left, merged, others, deep) = one_member patch w t.0 P k q (into patch w t.0 q) (get_member k is) j ms cs text new are named s.0 at (agrees k q e) made in
    let put = put_nests P (object ns) j in
    let stood = part_inside P j (object ms) at in
    let below = place_shallow patch (P ++ k ∷ []) q (w, t, named) in
    let long : length (P ++ k ∷ []) ≡ length P + 1 = length-append P (k ∷ []) in
    let most : depth j ≤ max_depth = s.1 in (
      put_at P (object ns) j,
      ns,
      (left, omega arith),
      put_stands P (object ns) j (object ms) at,
      λ l x f. others l (λ same. none-some x (sym (ap (λ n. get_member n ps) same ∙ none) ∙ f)) ∙ behind k l q x ps (agrees l x) f,
    )

-- ---- the loops

module _ (patch : List ℕ) (P : Pointer) (is : Members) (es : List (Bor (List ℕ) × Value Global)) (i : ℕ) (e : Bor (List ℕ) × Value Global) (again : Bool) (text now : List ℕ) (less : i < length es) (at : e ≡ get_or es i e)
    (tested : again ≡ is_some (get_member e.0.now (members_view (drop (i + 1) es)))) (h : IsUpTo patch P is (members_view es) (members_view (drop i es)) text now) where
  -- the member that is next
  ahead : IsUpTo patch P is (members_view es) (member e.0.now (value_view e.1) (members_view (drop (i + 1) es))) text now
  ahead = subst (λ ms. IsUpTo patch P is (members_view es) ms text now) (next_member es i e less at) h

  pub passed : again ≡ true → IsUpTo patch P is (members_view es) (members_view (drop (i + 1) es)) text now
  passed comes =
      let (later, there) = some_of (get_member e.0.now (members_view (drop (i + 1) es))) again tested comes in record {
        agrees = agrees_behind now P e.0.now (value_view e.1) (members_view (drop (i + 1) es)) is ahead.agrees;
        made = next_passed patch P is (members_view es) (members_view (drop (i + 1) es)) e.0.now (value_view e.1) later text now there ahead.made;
      }

  pub may_stand : again ≡ false → (there : Pointer) (was : Option Json) → there ≡ P ++ e.0.now ∷ [] → was ≡ get_member e.0.now is → MayStandAt now there was
  may_stand last there was way stood =
      let none = none_of (get_member e.0.now (members_view (drop (i + 1) es))) again tested last in
      subst (λ Q. MayStandAt now Q was) (sym way)
      (subst (MayStandAt now (P ++ e.0.now ∷ [])) (sym stood)
      (member_stands now P e.0.now (value_view e.1) (member e.0.now (value_view e.1) (members_view (drop (i + 1) es))) is ahead.agrees (first_named e.0.now (value_view e.1) (members_view (drop (i + 1) es)) none)))

  pub named : again ≡ false → (place : List ℕ) (there : Pointer) → place ≡ patch → there ≡ P ++ e.0.now ∷ [] → StandsAt patch P (object (members_view es)) → StandsAt place there (value_view e.1)
  named last place there same way stands =
      subst (λ Q. StandsAt place Q (value_view e.1)) (sym way)
      (subst (λ t. StandsAt t (P ++ e.0.now ∷ []) (value_view e.1)) (sym same) (member_named patch P e.0.now (value_view e.1) (members_view es) stands (last_named es i e again less at tested last)))

  pub merged : again ≡ false → (place : List ℕ) (there : Pointer) (was : Option Json) (new : List ℕ) → place ≡ patch → there ≡ P ++ e.0.now ∷ [] → was ≡ get_member e.0.now is → StandsAt patch P (object (members_view es))
      → IsChanged now new (MergesMember place there was (value_view e.1) (λ x. MergesInto place there x (value_view e.1))) → IsUpTo patch P is (members_view es) (members_view (drop (i + 1) es)) text new
  merged last place there was new same way stood stands changed =
      let k = e.0.now in
      let q = value_view e.1 in
      let ps = members_view (drop (i + 1) es) in
      let none = none_of (get_member k ps) again tested last in
      let made = as_meant patch place (P ++ k ∷ []) there (get_member k is) was q now new same way stood changed in record {
        agrees = agrees_after now patch new P k q ps is ahead.agrees (first_named k q ps none) none (member_named patch P k q (members_view es) stands (last_named es i e again less at tested last)) made;
        made = next_merged patch P is (members_view es) ps k q text now new none ahead.made made;
      }

pub first_up_to : (patch : List ℕ) (P : Pointer) (i : Json) (is all : Members) (text : List ℕ) → i ≡ object is → StandsAt text P i → IsUpTo patch P is all all text text
first_up_to patch P i is all text same stands = record { agrees = agrees_first text P is all (subst (StandsAt text P) same stands); made = ([], refl, λ rest h. h) }

-- ---- as the calls say it

pub nowhere_found : {A : Type 0} (text : List ℕ) (P Q : Pointer) (o : Option A) (Found : Json → A → Type 0) → (q : Json) × StandsAt text P q → Q ≡ P → o ≡ None → (j : Json) × IsShallowText text j × MatchOption o (tree_at Q j ≡ None) (Found j) → ⊥
nowhere_found text P Q o Found (q, stands) same none (j, s, h) = is_found text P q stands (j, s, subst (λ R. tree_at R j ≡ None) same (subst (λ x. MatchOption x (tree_at Q j ≡ None) (Found j)) none h))

-- what is found where something stands says that
pub said_there : (text s seen : List ℕ) (P Q : Pointer) (v : Json) → StandsAt text P v → Q ≡ P → (i : Json) × IsShallowText text i × IsWrittenAt text i Q s → seen ≡ s → Says seen v
said_there text s seen P Q v (j, said, at) way (i, shallow, (before, behind, is, (w, there, stretch))) same =
    let found : w ≡ v = same_Some w v (sym there ∙ ap (tree_at Q) (one_tree text i j shallow.0 said.0) ∙ ap (λ R. tree_at R j) way ∙ at) in
    subst (λ t. Says t v) (sym same) (subst (Says s) found stretch.says)

-- what is read is what the text says
pub read_same : (text : List ℕ) (read i j : Json) (same : Bool) → document text ≡ Some read → Decides same (SameTree read j) → Says text i → Decides same (SameTree i j)
read_same text read i j same is decides says = subst (λ x. Decides same (SameTree x j)) (one_tree text read i ((read_is text read).0 is).0 says) decides

-- ---- what something's shape tells

may_is : (text : List ℕ) (P : Pointer) (was : Option Json) (j : Json) → MayStandAt text P was → Says text j → tree_at P j ≡ was
may_is text P was j (i, F, k, ms, s, way, at, e) said = ap (tree_at P) (one_tree text j i said s.0) ∙ ap (λ Q. tree_at Q i) way ∙ further F k i (object ms) at ∙ e

shape_is : (text : List ℕ) (P : Pointer) (was : Option Json) (o : Option Shape) → MayStandAt text P was → ((j : Json) → Says text j → o ≡ option_map shape_of (tree_at P j)) → o ≡ option_map shape_of was
shape_is text P was o (i, F, k, ms, s, way, at, e) of = of i s.0 ∙ ap (option_map shape_of) (may_is text P was i (i, F, k, ms, s, way, at, e) s.0)

pub none_was : (text : List ℕ) (P : Pointer) (was : Option Json) (o : Option Shape) → MayStandAt text P was → ((j : Json) → Says text j → o ≡ option_map shape_of (tree_at P j)) → o ≡ None → was ≡ None
none_was text P was o may of none = by was (sym none ∙ shape_is text P was o may of)
  where
    by : (w : Option Json) → None ≡ option_map shape_of w → w ≡ None
    by None e = refl
    by (Some i) e = cc

pub some_was : (text : List ℕ) (P : Pointer) (was : Option Json) (o : Option Shape) (shape : Shape) → MayStandAt text P was → ((j : Json) → Says text j → o ≡ option_map shape_of (tree_at P j)) → o ≡ Some shape → (i : Json) × (was ≡ Some i)
some_was text P was o shape may of some = by was (sym some ∙ shape_is text P was o may of)
  where
    by : (w : Option Json) → Some shape ≡ option_map shape_of w → (i : Json) × (w ≡ Some i)
    by None e = cc
    by (Some i) e = (i, refl)

pub shape_stands : (text : List ℕ) (P : Pointer) (o : Option Shape) (shape : Shape) (i : Json) → ((j : Json) → Says text j → o ≡ option_map shape_of (tree_at P j)) → o ≡ Some shape → StandsAt text P i → shape ≡ shape_of i
shape_stands text P o shape i of some (j, s, at) = same_Some shape (shape_of i) (sym some ∙ of j s.0 ∙ ap (option_map shape_of) at)

pub object_of : (i : Json) (shape : Shape) → shape ≡ Object → shape ≡ shape_of i → (is : Members) × (i ≡ object is)
object_of null shape e of = cc
object_of (boolean b) shape e of = cc
object_of (number s) shape e of = cc
object_of (string s) shape e of = cc
object_of (array js) shape e of = cc
object_of (object is) shape e of = (is, refl)

pub no_object_of : (i : Json) (shape : Shape) → (shape ≡ Object → ⊥) → shape ≡ shape_of i → as_object i ≡ None
no_object_of null shape out of = refl
no_object_of (boolean b) shape out of = refl
no_object_of (number s) shape out of = refl
no_object_of (string s) shape out of = refl
no_object_of (array js) shape out of = refl
no_object_of (object is) shape out of = absurd (out of)

-- a whole text that was read
pub whole_stands : (text seen : List ℕ) (P : Pointer) (v : Json) → seen ≡ text → P ≡ [] → document text ≡ Some v → StandsAt seen P v
whole_stands text seen P v same root e = (v, subst (λ t. IsShallowText t v) (sym same) ((read_is text v).0 e), ap (λ Q. tree_at Q v) root)

pub whole_there : (text seen : List ℕ) (P : Pointer) → seen ≡ text → P ≡ [] → (j : Json) × IsShallowText text j → (i : Json) × StandsAt seen P i
whole_there text seen P same root (j, s) = (j, (j, subst (λ t. IsShallowText t j) (sym same) s, ap (λ Q. tree_at Q j) root))

pub whole_shape : (text seen : List ℕ) (P : Pointer) (shape : Shape) (i : Json) → seen ≡ text → P ≡ [] → ((j : Json) → Says text j → shape ≡ shape_of j) → StandsAt seen P i → shape ≡ shape_of i
whole_shape text seen P shape i same root of (j, s, at) = of j (subst (λ t. Says t j) same s.0) ∙ ap shape_of (same_Some j i (sym (ap (λ Q. tree_at Q j) root) ∙ at))

-- ---- as the calls need it

pub stands_as : (text seen : List ℕ) (P : Pointer) (v w : Json) → seen ≡ text → v ≡ w → StandsAt text P v → StandsAt seen P w
stands_as text seen P v w same is h = subst (λ t. StandsAt t P w) (sym same) (subst (StandsAt text P) is h)

pub may_as : (text seen : List ℕ) (P : Pointer) (was o : Option Json) → seen ≡ text → was ≡ o → MayStandAt text P was → MayStandAt seen P o
may_as text seen P was o same is h = subst (λ t. MayStandAt t P o) (sym same) (subst (MayStandAt text P) is h)

pub removal_stands : (text : List ℕ) (P : Pointer) (was : Option Json) (i : Json) → was ≡ Some i → MayStandAt text P was → (x : Json) × MayStandAt text P (Some x)
removal_stands text P was i is h = (i, subst (MayStandAt text P) is h)
