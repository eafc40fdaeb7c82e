-- What takes back an addition, found in a text.
use Rattle.std.proofs.Common.{◌≡◌, ◌<◌, ℕ, zero, suc, List, [], ◌∷◌, ◌++◌, Bool, true, false, bytes_eq, Option, Some, None, option_and_then, option_map, is_some, if◌then◌else◌, String, Global, string_bytes, refl, sym, ap, ap₂, ◌∙◌, subst, arith}
use Rattle.std.proofs.lemmas.Bool.{false≢true}
use Rattle.std.proofs.lemmas.Option.{none-some}
use Rattle.json.specs.Json.{Json, null, boolean, number, string, array, object, Items, no_items, item}
use Rattle.json_lexemes.specs.Spelled.{IsShallowText, Says}
use Rattle.json_lexemes.proofs.Nests.{one_tree}
use Rattle.json_patch_document.specs.ChangeComputed.{front_of, last_of}
use Rattle.json_patch_edit.proofs.StepOutcomes.{front_append, last_append}
use Rattle.json_patch_edit.proofs.Locations.{split_whole}
use Rattle.json_patch_text.specs.Changed.{count}
use Rattle.json_patch_text.specs.Operations.{replace}
use Rattle.json_patch_text.specs.Inverses.{settled, undo_there, undo_below, undo_added}
use Rattle.json_patch_text.specs.Undos.{IsUndo, in_array, is_array}
use Rattle.json_patch_text.specs.declared.undo.Undo.TheVariants as undo
use Rattle.json_patch_text.proofs.Agree.{removed_nowhere, removed_tree}
use Rattle.json_patch_text.proofs.Made.{nowhere, source}
use Rattle.json_text.specs.Removed.{IsRemoved}
use Rattle.json_text.specs.Replaced.{IsReplaced}
use Rattle.json_text.specs.Listing.{shape_of}
use Rattle.json_text.specs.Pointed.{IsWrittenAt, child, tree_at}
use Rattle.json_text.proofs.Rows.Removing.{tree_below}
use Rattle.json.specs.Find.{get_item}
use Rattle.std.specs.Bool.{Decides}
use Rattle.jsonptr.specs.PlaceLaws.{place_is_token}
use Rattle.json_text.specs.declared.listing.Shape.{Shape}
use Rattle.std.proofs.lemmas.Slice.Eq.{bytes_eq-Decides}
use Rattle.jsonptr.specs.Places.{decimal_token, next_token}
use Rattle.jsonptr.specs.Text.{Pointer, ReplacesLast}

-- ---- pointers split before the last token

-- F is all but the last token, which is l
abbrev Parts : Pointer → List ℕ → Pointer → Type 0
Parts F l [] = ⊥
Parts F l (t ∷ Q) = (front_of t Q ≡ F) × (last_of t Q ≡ l)

parts : (F : Pointer) (l : List ℕ) → Parts F l (F ++ l ∷ [])
parts [] l = (refl, refl)
parts (u ∷ F) l = (front_append u l F, last_append u l F)

front_is : (F : Pointer) (l : List ℕ) (t : List ℕ) (Q : Pointer) → t ∷ Q ≡ F ++ l ∷ [] → (front_of t Q ≡ F) × (last_of t Q ≡ l)
front_is F l t Q e = subst (Parts F l) (sym e) (parts F l)

-- ---- the array

array_found : (o : Option Json) → is_array (option_map shape_of o) ≡ true → (js : Items) × (o ≡ Some (array js))
array_found None e = absurd (false≢true e)
array_found (Some null) e = absurd (false≢true e)
array_found (Some (boolean b)) e = absurd (false≢true e)
array_found (Some (number s)) e = absurd (false≢true e)
array_found (Some (string s)) e = absurd (false≢true e)
array_found (Some (array js)) e = (js, refl)
array_found (Some (object ms)) e = absurd (false≢true e)

no_array : (i : Json) (F : Pointer) (l : List ℕ) (P : Pointer) (o : Option Json) → is_array (option_map shape_of o) ≡ false → undo_below i F l P o ≡ undo_there P (tree_at P i)
no_array i F l P None e = refl
no_array i F l P (Some null) e = refl
no_array i F l P (Some (boolean b)) e = refl
no_array i F l P (Some (number s)) e = refl
no_array i F l P (Some (string s)) e = refl
no_array i F l P (Some (array js)) e = absurd (false≢true (sym e))
no_array i F l P (Some (object ms)) e = refl

pub in_array_at : (i : Json) (P F : Pointer) (l : List ℕ) (found : Option Shape) → P ≡ F ++ l ∷ [] → found ≡ option_map shape_of (tree_at F i) → is_array found ≡ in_array i P
in_array_at i [] F l found e f = absurd (nothing F e)
  where
    nothing : (G : Pointer) → [] ≡ G ++ l ∷ [] → ⊥
    nothing [] h = cc
    nothing (u ∷ G) h = cc
in_array_at i (t ∷ Q) F l found e f = ap is_array f ∙ ap (λ G. is_array (option_map shape_of (tree_at G i))) (sym (front_is F l t Q e).0)

counted : (js : Items) (n : ℕ) → Decides (is_some (option_map shape_of (get_item n js))) (n < count js)
counted no_items n = ((λ e. absurd (false≢true e)), (λ h. absurd (omega arith)))
counted (item j js) zero = ((λ e. omega arith), (λ h. refl))
counted (item j js) (suc n) = let (f, g) = counted js n in ((λ e. let h = f e in omega (arith, h)), (λ h. g (omega arith)))

-- what is looked at is the element of this number
pub element_looked : (i : Json) (P Q : Pointer) (t : List ℕ) (js : Items) (n : ℕ) (found : Option Shape) → Q ≡ P ++ t ∷ [] → t ≡ decimal_token n → tree_at P i ≡ Some (array js) → found ≡ option_map shape_of (tree_at Q i) → Decides (is_some found) (n < count js)
element_looked i P Q t js n found e named at is =
    let here : tree_at Q i ≡ get_item n js = ap (λ X. tree_at X i) e ∙ tree_below P t i ∙ ap (option_and_then (child t)) at ∙ ap (option_and_then (λ m. get_item m js)) ((place_is_token t n).1 named) in
    subst (λ o. Decides (is_some o) (n < count js)) (sym (is ∙ ap (option_map shape_of) here)) (counted js n)

-- ---- the operation

pub in_an_array : (text : List ℕ) (i : Json) (P place : Pointer) → in_array i P ≡ true → ((F : Pointer) (l : List ℕ) (js : Items) → P ≡ F ++ l ∷ [] → tree_at F i ≡ Some (array js) → place ≡ F ++ settled js l ∷ []) → IsUndo text i (undo.Remove place) (undo_added i P)
in_an_array text i [] place e h = absurd (false≢true e)
in_an_array text i (t ∷ Q) place e h =
    let (js, at) = array_found (tree_at (front_of t Q) i) e in
    subst (IsUndo text i (undo.Remove place)) (sym (ap (undo_below i (front_of t Q) (last_of t Q) (t ∷ Q)) at)) (sym (h (front_of t Q) (last_of t Q) js (split_whole t Q) at))

pub not_in_an_array : (i : Json) (P : Pointer) → in_array i P ≡ false → undo_added i P ≡ undo_there P (tree_at P i)
not_in_an_array i [] e = refl
not_in_an_array i (t ∷ Q) e = no_array i (front_of t Q) (last_of t Q) (t ∷ Q) (tree_at (front_of t Q) i) e

pub put_back : (text : List ℕ) (i j : Json) (P Q : Pointer) (s : String Global) → Says text i → IsShallowText text j → in_array i P ≡ false → Q ≡ P → IsWrittenAt text j P (string_bytes s) → IsUndo text i (undo.Replace Q s) (undo_added i P)
put_back text i j P Q s said shallow e same (before, behind, whole, (v, at, stretch)) =
    let one : j ≡ i = one_tree text j i shallow.0 said in
    let here : tree_at P i ≡ Some v = ap (tree_at P) (sym one) ∙ at in
    let written : IsWrittenAt text i P (string_bytes s) = subst (λ x. IsWrittenAt text x P (string_bytes s)) one (before, behind, whole, (v, at, stretch)) in
    let op : undo_added i P ≡ replace P v = not_in_an_array i P e ∙ ap (undo_there P) here in
    subst (IsUndo text i (undo.Replace Q s)) (sym op) (sym same, subst (λ X. tree_at X i ≡ Some v) (sym same) here, subst (λ X. IsWrittenAt text i X (string_bytes s)) (sym same) written)

pub taken_out : (text : List ℕ) (i j : Json) (P Q : Pointer) → Says text i → IsShallowText text j → in_array i P ≡ false → Q ≡ P → tree_at P j ≡ None → IsUndo text i (undo.Remove Q) (undo_added i P)
taken_out text i j P Q said shallow e same none =
    let gone : tree_at P i ≡ None = ap (tree_at P) (one_tree text i j said shallow.0) ∙ none in
    subst (IsUndo text i (undo.Remove Q)) (sym (not_in_an_array i P e ∙ ap (undo_there P) gone)) (sym same)

-- ---- the place of a new element

same_parts : (F G : Pointer) (l m : List ℕ) → F ++ l ∷ [] ≡ G ++ m ∷ [] → (F ≡ G) × (l ≡ m)
same_parts [] [] l m e = (refl, cc)
same_parts [] (u ∷ G) l m e = absurd (longer u l m G e)
  where
    longer : (u l m : List ℕ) (G : Pointer) → l ∷ [] ≡ u ∷ (G ++ m ∷ []) → ⊥
    longer u l m [] h = cc
    longer u l m (w ∷ G) h = cc
same_parts (u ∷ F) [] l m e = absurd (longer u l m F e)
  where
    longer : (u l m : List ℕ) (F : Pointer) → u ∷ (F ++ l ∷ []) ≡ m ∷ [] → ⊥
    longer u l m [] h = cc
    longer u l m (w ∷ F) h = cc
same_parts (u ∷ F) (w ∷ G) l m e =
    let more = same_parts F G l m cc in
    let head : u ≡ w = cc in
    (ap₂ (λ a b. a ∷ b) head more.0, more.1)

settled_next : (js : Items) (l : List ℕ) → l ≡ next_token → settled js l ≡ decimal_token (count js)
settled_next js l e = ap (λ b. if b then decimal_token (count js) else l) ((bytes_eq-Decides l next_token).1 e)

settled_kept : (js : Items) (l : List ℕ) → (l ≡ next_token → ⊥) → settled js l ≡ l
settled_kept js l other = by (bytes_eq l next_token) (bytes_eq-Decides l next_token).0
  where
    by : (b : Bool) → (b ≡ true → l ≡ next_token) → (if b then decimal_token (count js) else l) ≡ l
    by true is = absurd (other (is refl))
    by false is = refl

pub place_kept : (P place F G : Pointer) (l m : List ℕ) (js : Items) → place ≡ P → P ≡ F ++ l ∷ [] → P ≡ G ++ m ∷ [] → (m ≡ next_token → ⊥) → place ≡ F ++ settled js l ∷ []
place_kept P place F G l m js is e f other =
    let one = same_parts F G l m (sym e ∙ f) in
    is ∙ e ∙ ap (λ y. F ++ y ∷ []) (sym (settled_kept js l (λ g. other (sym one.1 ∙ g))))

pub place_settled : (i : Json) (P place new F G : Pointer) (l m t : List ℕ) (js : Items) (n : ℕ) → place ≡ P → P ≡ F ++ l ∷ [] → P ≡ G ++ m ∷ [] → m ≡ next_token → t ≡ decimal_token n → tree_at F i ≡ Some (array js) → (tree_at G i ≡ Some (array js) → n ≡ count js)
    → ReplacesLast place t new → new ≡ F ++ settled js l ∷ []
place_settled i P place new F G l m t js n is e f next numbered at counted made =
    let one = same_parts F G l m (sym e ∙ f) in
    let there : n ≡ count js = counted (subst (λ X. tree_at X i ≡ Some (array js)) one.0 at) in
    made F l (is ∙ e) ∙ ap (λ y. F ++ y ∷ []) (numbered ∙ ap decimal_token there ∙ sym (settled_next js l (one.1 ∙ next)))

-- ---- what stands at a place, by its text

pub shape_found : (text s : List ℕ) (P : Pointer) (i : Json) (shape : Shape) → (j : Json) × IsShallowText text j × IsWrittenAt text j P s → ((v : Json) → Says s v → shape ≡ shape_of v) → Says text i → Some shape ≡ option_map shape_of (tree_at P i)
shape_found text s P i shape there is said =
    let (v, at, shallow, whole) = source text P i s there said in
    ap Some (is v shallow.0) ∙ sym (ap (option_map shape_of) at)

pub no_shape : (text : List ℕ) (P : Pointer) (i : Json) → (j : Json) × IsShallowText text j × (tree_at P j ≡ None) → Says text i → None ≡ option_map shape_of (tree_at P i)
no_shape text P i none said = sym (ap (option_map shape_of) (nowhere text P i none said))

-- ---- what a change displaces

pub replaced_stood : (text value new : List ℕ) (P : Pointer) (i : Json) → Says text i → IsReplaced text P value new → (v : Json) × (tree_at P i ≡ Some v)
replaced_stood text value new P i said r = (r.stood.0, ap (tree_at P) (one_tree text i r.tree said r.says.0) ∙ r.stood.1)

pub removed_stood : (text new : List ℕ) (P : Pointer) (i : Json) → Says text i → IsRemoved text P new → (v : Json) × (tree_at P i ≡ Some v)
removed_stood text new P i said r = by (tree_at P i) refl
  where
    by : (o : Option Json) → tree_at P i ≡ o → (v : Json) × (tree_at P i ≡ Some v)
    by (Some v) e = (v, e)
    by None e = let (m, left, after, low) = removed_tree text P new i said r in absurd (none-some m (sym (removed_nowhere P i e) ∙ left))
