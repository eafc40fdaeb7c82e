-- What the calls make of a text, put together to the changes of a merge.
use Rattle.std.proofs.Common.{◌≡◌, ◌<◌, ◌≤◌, ◌⊎◌, ◌+◌, inl, inr, ℕ, zero, suc, List, [], ◌∷◌, ◌++◌, drop, length, get_or, Bool, true, false, cond, bytes_eq, is_some, Option, Some, None, Global, refl, sym, ap, ◌∙◌, subst, arith, rules, append_assoc, append-nil}
use Rattle.std.specs.Borrow.{Bor}
use Rattle.std.specs.Prelude.{MatchOption, Vec}
use Rattle.std.proofs.lemmas.List.{drop_all}
use Rattle.std.proofs.lemmas.Option.{same_Some}
use Rattle.json.specs.Find.{as_object, get_member, is_null, later_or}
use Rattle.json.specs.Json.{Json, document, null, boolean, number, string, array, object, Members, member}
use Rattle.json.specs.Tree.{depth, members_depth}
use Rattle.json.specs.Value.{value_view, members_view}
use Rattle.json.specs.declared.value.Value.{Value, Object, the_lemmas}
use Rattle.jsonptr.specs.Text.{Pointer}
use Rattle.json_merge_text.specs.Changes.{TextChange, add, remove, replace}
use Rattle.json_merge_text.specs.Merging.{InTurn, IsChanged, MergesInto, MergesMember, MergesObject, PutsIn}
use Rattle.json_merge_text.specs.Stands.{IsMadeUpTo, IsPutIn, StandsAt}
use Rattle.json_merge_text.proofs.Merges.{first_named, made_then}
use Rattle.json_patch_text.proofs.Made.{same_itself}
use Rattle.json_reading.specs.Same.{SameTree}
use Rattle.json_text.specs.Pointed.{tree_at}
use Rattle.json_text.specs.Removed.{IsRemoved}
use Rattle.json_lexemes.specs.Spelled.{IsShallowText}
use Rattle.json_lexemes.proofs.Nests.{read_is}

-- ---- what a value isn't

pub other_value : (v : Value Global) → ((m : Vec (Bor (List ℕ) × Value Global) Global) → v ≡ Object m → ⊥) → as_object (value_view v) ≡ None
other_value v out = search (rules, the_lemmas, out)

null_is : (q : Json) → is_null q ≡ true → q ≡ null
null_is null e = refl
null_is (boolean b) e = cc
null_is (number s) e = cc
null_is (string s) e = cc
null_is (array js) e = cc
null_is (object ms) e = cc

-- ---- a value put in

put_then : (patch : List ℕ) (P : Pointer) (change : List ℕ → TextChange) (Rest : List TextChange → Type 0) (text mid new : List ℕ) → IsPutIn patch P change text mid → IsChanged mid new Rest → IsChanged text new (PutsIn patch P change Rest)
put_then patch P change Rest text mid new (s, written, made) (cs, are, rest) = (change s ∷ cs, (s, cs, written, are, refl), (mid, made, rest))

-- ---- merged into what stands there

of_other : (patch : List ℕ) (P : Pointer) (i p : Json) (cs : List TextChange) → as_object p ≡ None → (SameTree i p × (cs ≡ [])) ⊎ ((SameTree i p → ⊥) × PutsIn patch P (replace P) (λ rest. rest ≡ []) cs) → MergesInto patch P i p cs
of_other patch P i null cs none h = h
of_other patch P i (boolean b) cs none h = h
of_other patch P i (number s) cs none h = h
of_other patch P i (string s) cs none h = h
of_other patch P i (array js) cs none h = h
of_other patch P i (object ps) cs none h = cc

pub left_same : (patch : List ℕ) (P : Pointer) (i p : Json) (text : List ℕ) → as_object p ≡ None → SameTree i p → IsChanged text text (MergesInto patch P i p)
left_same patch P i p text none same = ([], of_other patch P i p [] none (inl (same, refl)), refl)

pub left_itself : (patch : List ℕ) (P : Pointer) (q : Json) (text : List ℕ) → as_object q ≡ None → IsChanged text text (MergesInto patch P q q)
left_itself patch P q text none = left_same patch P q q text none (same_itself q)

pub replaced : (patch : List ℕ) (P : Pointer) (i p : Json) (text new : List ℕ) → as_object p ≡ None → (SameTree i p → ⊥) → IsPutIn patch P (replace P) text new → IsChanged text new (MergesInto patch P i p)
replaced patch P i p text new none out put =
    let (cs, are, made) = put_then patch P (replace P) (λ rest. rest ≡ []) text new new put ([], refl, refl) in
    (cs, of_other patch P i p cs none (inr (out, are)), made)

pub object_merged : (patch : List ℕ) (P : Pointer) (i p : Json) (is ps : Members) (text new : List ℕ) → p ≡ object ps → i ≡ object is → IsChanged text new (MergesObject patch P is ps) → IsChanged text new (MergesInto patch P i p)
object_merged patch P i p is ps text new named there (cs, are, made) = (cs, subst (λ x. MergesInto patch P i x cs) (sym named) (subst (λ x. MergesInto patch P x (object ps) cs) (sym there) are), made)

pub object_replaced : (patch : List ℕ) (P : Pointer) (i p : Json) (ps : Members) (text mid new : List ℕ) → p ≡ object ps → as_object i ≡ None → IsPutIn patch P (replace P) text mid → IsChanged mid new (MergesObject patch P ps ps) → IsChanged text new (MergesInto patch P i p)
object_replaced patch P i p ps text mid new is none put more =
    let (cs, are, made) = put_then patch P (replace P) (MergesObject patch P ps ps) text mid new put more in
    (cs, subst (λ x. MergesInto patch P i x cs) (sym is) (subst (λ o. MatchOption o (PutsIn patch P (replace P) (MergesObject patch P ps ps) cs) (λ is. MergesObject patch P is ps cs)) (sym none) are), made)

-- ---- a member

null_member : (patch : List ℕ) (P : Pointer) (was : Option Json) (q : Json) (Into : Json → List TextChange → Type 0) (cs : List TextChange) → is_null q ≡ true → MatchOption was (cs ≡ []) (λ i. cs ≡ remove P ∷ []) → MergesMember patch P was q Into cs
null_member patch P was q Into cs e h = subst (λ x. MergesMember patch P was x Into cs) (sym (null_is q e)) h

other_member : (patch : List ℕ) (P : Pointer) (was : Option Json) (q : Json) (Into : Json → List TextChange → Type 0) (cs : List TextChange) → is_null q ≡ false → MatchOption was (PutsIn patch P (add P) (Into q) cs) (λ i. Into i cs)
    → MergesMember patch P was q Into cs
other_member patch P was null Into cs e h = cc
other_member patch P was (boolean b) Into cs e h = h
other_member patch P was (number s) Into cs e h = h
other_member patch P was (string s) Into cs e h = h
other_member patch P was (array js) Into cs e h = h
other_member patch P was (object ms) Into cs e h = h

pub left_out : (patch : List ℕ) (P : Pointer) (was : Option Json) (q : Json) (Into : Json → List TextChange → Type 0) (text : List ℕ) → was ≡ None → is_null q ≡ true → IsChanged text text (MergesMember patch P was q Into)
left_out patch P was q Into text none e =
    let nothing : List TextChange = [] in
    (nothing, null_member patch P was q Into nothing e (subst (λ (o : Option Json). MatchOption o (nothing ≡ []) (λ i. nothing ≡ remove P ∷ [])) (sym none) refl), refl)

pub removed : (patch : List ℕ) (P : Pointer) (was : Option Json) (q i : Json) (Into : Json → List TextChange → Type 0) (text new : List ℕ) → was ≡ Some i → is_null q ≡ true → IsRemoved text P new → IsChanged text new (MergesMember patch P was q Into)
removed patch P was q i Into text new there e made =
    (remove P ∷ [], null_member patch P was q Into (remove P ∷ []) e (subst (λ o. MatchOption o (remove P ∷ [] ≡ []) (λ i. remove P ∷ [] ≡ remove P ∷ [])) (sym there) refl), (new, made, refl))

pub added : (patch : List ℕ) (P : Pointer) (was : Option Json) (q : Json) (text mid new : List ℕ) → was ≡ None → is_null q ≡ false → IsPutIn patch P (add P) text mid → IsChanged mid new (MergesInto patch P q q)
    → IsChanged text new (MergesMember patch P was q (λ i. MergesInto patch P i q))
added patch P was q text mid new none e put more =
    let (cs, are, made) = put_then patch P (add P) (MergesInto patch P q q) text mid new put more in
    (cs, other_member patch P was q (λ i. MergesInto patch P i q) cs e (subst (λ o. MatchOption o (PutsIn patch P (add P) (MergesInto patch P q q) cs) (λ i. MergesInto patch P i q cs)) (sym none) are), made)

pub found_one : (patch : List ℕ) (P : Pointer) (was : Option Json) (q i : Json) (text new : List ℕ) → was ≡ Some i → is_null q ≡ false → IsChanged text new (MergesInto patch P i q) → IsChanged text new (MergesMember patch P was q (λ i. MergesInto patch P i q))
found_one patch P was q i text new there e (cs, are, made) =
    (cs, other_member patch P was q (λ i. MergesInto patch P i q) cs e (subst (λ o. MatchOption o (PutsIn patch P (add P) (MergesInto patch P q q) cs) (λ i. MergesInto patch P i q cs)) (sym there) are), made)

-- ---- one member after another

pub some_of : (o : Option Json) (again : Bool) → again ≡ is_some o → again ≡ true → (x : Json) × (o ≡ Some x)
some_of None again e f = cc
some_of (Some x) again e f = (x, refl)

pub none_of : (o : Option Json) (again : Bool) → again ≡ is_some o → again ≡ false → o ≡ None
none_of None again e f = refl
none_of (Some x) again e f = cc

-- at the place that was meant
pub as_meant : (patch place : List ℕ) (P there : Pointer) (o was : Option Json) (q : Json) (now new : List ℕ) → place ≡ patch → there ≡ P → was ≡ o → IsChanged now new (MergesMember place there was q (λ x. MergesInto place there x q))
    → IsChanged now new (MergesMember patch P o q (λ x. MergesInto patch P x q))
as_meant patch place P there o was q now new same way stood h =
    subst (λ x. IsChanged now new (MergesMember patch P x q (λ y. MergesInto patch P y q))) stood
    (subst (λ Q. IsChanged now new (MergesMember patch Q was q (λ y. MergesInto patch Q y q))) way (subst (λ t. IsChanged now new (MergesMember t there was q (λ y. MergesInto t there y q))) same h))

-- a member that doesn't come again is merged
pub next_merged : (patch : List ℕ) (P : Pointer) (is all ps : Members) (k : List ℕ) (q : Json) (text now new : List ℕ) → get_member k ps ≡ None → IsMadeUpTo text now (MergesObject patch P is all) (MergesObject patch P is (member k q ps))
    → IsChanged now new (MergesMember patch (P ++ k ∷ []) (get_member k is) q (λ x. MergesInto patch (P ++ k ∷ []) x q)) → IsMadeUpTo text new (MergesObject patch P is all) (MergesObject patch P is ps)
next_merged patch P is all ps k q text now new none (done, made, grows) (first, one, more) = (
  done ++ first,
  made_then done first text now new made more,
  λ rest h.
      subst (MergesObject patch P is all) (sym (append_assoc done first rest))
      (grows (first ++ rest)
      (subst (λ o. MatchOption o (InTurn (MergesMember patch (P ++ k ∷ []) (get_member k is) q (λ x. MergesInto patch (P ++ k ∷ []) x q)) (MergesObject patch P is ps) (first ++ rest)) (λ later. MergesObject patch P is ps (first ++ rest))) (sym none)
      (first, rest, one, h, refl))),
)

-- one that does isn't
pub next_passed : (patch : List ℕ) (P : Pointer) (is all ps : Members) (k : List ℕ) (q later : Json) (text now : List ℕ) → get_member k ps ≡ Some later → IsMadeUpTo text now (MergesObject patch P is all) (MergesObject patch P is (member k q ps))
    → IsMadeUpTo text now (MergesObject patch P is all) (MergesObject patch P is ps)
next_passed patch P is all ps k q later text now e (done, made, grows) = (
  done,
  made,
  λ rest h.
      grows rest (subst (λ o. MatchOption o (InTurn (MergesMember patch (P ++ k ∷ []) (get_member k is) q (λ x. MergesInto patch (P ++ k ∷ []) x q)) (MergesObject patch P is ps) rest) (λ later. MergesObject patch P is ps rest)) (sym e) h),
)

pub all_merged : {A : Type 0} (patch : List ℕ) (P : Pointer) (is all : Members) (es : List (Bor (List ℕ) × Value A)) (i : ℕ) (text now : List ℕ) → length es ≤ i
    → IsMadeUpTo text now (MergesObject patch P is all) (MergesObject patch P is (members_view (drop i es))) → IsChanged text now (MergesObject patch P is all)
all_merged patch P is all es i text now past (done, made, grows) =
    (done, subst (MergesObject patch P is all) (append-nil done) (grows [] (subst (λ ds. MergesObject patch P is (members_view ds) []) (sym (drop_all i es past)) refl)), made)

-- the last of a name is what stands there
later_named : (k l : List ℕ) (i j : Json) (ms : Members) → get_member k ms ≡ Some i → get_member k (member l j ms) ≡ Some i
later_named k l i j ms e = ap (λ o. later_or o (cond (bytes_eq l k) (Some j) None)) e

last_at : (es : List (Bor (List ℕ) × Value Global)) (i : ℕ) (e : Bor (List ℕ) × Value Global) → i < length es → e ≡ get_or es i e → get_member e.0.now (members_view (drop (suc i) es)) ≡ None → get_member e.0.now (members_view es) ≡ Some (value_view e.1)
last_at [] i e less at none = absurd (omega (arith, less))
last_at (x ∷ es) zero e less at none =
    subst (λ y. get_member e.0.now (member y.0.now (value_view y.1) (members_view es)) ≡ Some (value_view e.1)) at (first_named e.0.now (value_view e.1) (members_view es) none)
last_at (x ∷ es) (suc i) e less at none = later_named e.0.now x.0.now (value_view e.1) (value_view x.1) (members_view es) (last_at es i e (omega (arith, less)) at none)

pub last_named : (es : List (Bor (List ℕ) × Value Global)) (i : ℕ) (e : Bor (List ℕ) × Value Global) (again : Bool) → i < length es → e ≡ get_or es i e → again ≡ is_some (get_member e.0.now (members_view (drop (i + 1) es))) → again ≡ false
    → get_member e.0.now (members_view es) ≡ Some (value_view e.1)
last_named es i e again less at tested last =
    let next : i + 1 ≡ suc i = omega arith in
    last_at es i e less at (subst (λ n. get_member e.0.now (members_view (drop n es)) ≡ None) next (none_of _ again tested last))

pub pair_depth : {A : Type 0} (es : List (Bor (List ℕ) × Value A)) (i : ℕ) (e : Bor (List ℕ) × Value A) → i < length es → e ≡ get_or es i e → depth (value_view e.1) ≤ members_depth (members_view es)
pair_depth [] i e h is = absurd (omega (arith, h))
pair_depth (x ∷ es) zero e h is = omega (arith, ap (λ y. depth (value_view y.1)) is)
pair_depth (x ∷ es) (suc i) e h is = omega (arith, pair_depth es i e (omega (arith, h)) is)

-- ---- the texts as they are read

-- what is read of the patch is what it says
pub as_said : (text patch : List ℕ) (y i p : Json) (first second new : List ℕ) (path : Pointer) → document patch ≡ Some y → first ≡ text → second ≡ patch → path ≡ []
    → ((x : Json) → StandsAt first path x → IsChanged first new (MergesInto second path x y)) → IsShallowText text i → IsShallowText patch p → IsChanged text new (MergesInto patch [] i p)
as_said text patch y i p first second new path read same there root made s t =
    let b : y ≡ p = same_Some y p (sym read ∙ (read_is patch p).1 t) in
    let stands : StandsAt first path i = (i, subst (λ u. IsShallowText u i) (sym same) s, ap (λ Q. tree_at Q i) root) in
    subst (λ z. IsChanged text new (MergesInto patch [] i z)) b
    (subst (λ Q. IsChanged text new (MergesInto patch Q i y)) root
    (subst (λ q. IsChanged text new (MergesInto q path i y)) there
    (subst (λ u. IsChanged u new (MergesInto second path i y)) same (made i stands))))
