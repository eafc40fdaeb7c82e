-- What json_text's calls make of a text is what operations come to, and why not.
use Rattle.std.proofs.Common.{◌≡◌, ◌≤◌, ℕ, List, Bool, true, false, Option, Some, None, Result, Ok, Err, IfOk, IfErr, if◌then◌else◌, refl, sym, ap, ap₂, ◌∙◌, subst, arith}
use Rattle.std.specs.Bool.{Decides}
use Rattle.std.specs.Prelude.{IsErrAnd}
use Rattle.std.proofs.lemmas.Option.{same_Some}
use Rattle.std.proofs.lemmas.Result.{IfOk-at_ok}
use Rattle.json.specs.Json.{Json, document, max_depth}
use Rattle.json.specs.Tree.{depth}
use Rattle.jsonptr.specs.Text.{Pointer, IsProperPrefix}
use Rattle.json_patch_document.proofs.SameDocuments.{AreSame-document}
use Rattle.json_patch_edit.proofs.StepOutcomes.{not_begins, prefix_begins}
use Rattle.json_patch_operation.specs.declared.error.PatchErrorKind.{PatchErrorKind}
use Rattle.json_patch_operation.specs.declared.error.PatchErrorKind.TheVariants.{TestFailed, InvalidFromPointer, InvalidPointer, CannotMoveInsideItself}
use Rattle.json_patch_text.specs.Changed.{added, removed, replaced}
use Rattle.json_patch_text.specs.Made.{IsLeft, IsMoved, IsNotMade, IsStopped}
use Rattle.json_patch_text.specs.Operations.{add, remove, replace, move, copy, test}
use Rattle.json_patch_text.specs.Step.{ComesTo, Tests, or_refused, after_move, after_copy}
use Rattle.json_patch_text.specs.declared.fault.StepFault.{StepFault}
use Rattle.json_patch_text.specs.declared.fault.StepFault.TheVariants as step
use Rattle.json_patch_text.proofs.Agree.{added_is, no_place, replaced_there, replaced_nowhere, removed_tree, removed_nothing}
use Rattle.json_reading.proofs.Documents.{IsDocument-data_of}
use Rattle.json_reading.proofs.Trees.{same_exactly}
use Rattle.json_reading.specs.Same.{SameTree}
use Rattle.json_reading.specs.Trees.{data_of}
use Rattle.json_text.specs.Added.{HasNoPlace, IsAdded}
use Rattle.json_text.specs.Pointed.{tree_at, put_at, IsWrittenAt}
use Rattle.json_text.specs.Removed.{HasNothingToRemove, IsRemoved}
use Rattle.json_text.specs.Replaced.{IsReplaced, LeadsNowhere}
use Rattle.json_lexemes.specs.Spelled.{IsShallowText, Says}
use Rattle.json_lexemes.proofs.Nests.{one_tree, read_is}
use Rattle.json_text.proofs.Readable.{part_says, part_shallow}

-- ---- add

pub add_left : (text value new : List ℕ) (P : Pointer) (i w : Json) → Says text i → Says value w → IsAdded text P value new → (j : Json) × (added P w i ≡ Some j) × Says new j
add_left text value new P i w said value_said a =
    let here : a.tree ≡ i = one_tree text a.tree i a.says.0 said in
    let put : a.wanted ≡ w = one_tree value a.wanted w a.value_says.0 value_said in
    (a.sum, ap₂ (λ x y. added P x y) (sym put) (sym here) ∙ sym (added_is P a.wanted a.tree) ∙ a.added, a.after)

pub add_comes : (text value new : List ℕ) (P : Pointer) (i w : Json) → Says text i → Says value w → IsAdded text P value new → IsLeft new i (add P w)
add_comes text value new P i w said value_said a =
    let left = add_left text value new P i w said value_said a in
    (left.0, left.2, sym (ap (or_refused InvalidPointer) left.1))

pub add_stops : (text : List ℕ) (P : Pointer) (i w : Json) (f : StepFault) → Says text i → IsNotMade (HasNoPlace text P) f → IsStopped i (add P w) f
add_stops text P i w (step.Refused kind) said h = ap Err h.0 ∙ sym (ap (or_refused InvalidPointer) (no_place text P w i said h.1))
add_stops text P i w (step.Memory m) said h = tt

-- ---- remove and replace

pub remove_comes : (text new : List ℕ) (P : Pointer) (i : Json) → Says text i → IsRemoved text P new → IsLeft new i (remove P)
remove_comes text new P i said r = let left = removed_tree text P new i said r in (left.0, left.2, sym (ap (or_refused InvalidPointer) left.1))

pub remove_stops : (text : List ℕ) (P : Pointer) (i : Json) (f : StepFault) → Says text i → IsNotMade (HasNothingToRemove text P) f → IsStopped i (remove P) f
remove_stops text P i (step.Refused kind) said h = ap Err h.0 ∙ sym (ap (or_refused InvalidPointer) (removed_nothing text P i said h.1))
remove_stops text P i (step.Memory m) said h = tt

pub replace_comes : (text value new : List ℕ) (P : Pointer) (i w : Json) → Says text i → Says value w → IsReplaced text P value new → IsLeft new i (replace P w)
replace_comes text value new P i w said value_said r =
    let here : r.tree ≡ i = one_tree text r.tree i r.says.0 said in
    let put : r.wanted ≡ w = one_tree value r.wanted w r.value_says.0 value_said in
    let is : replaced P w i ≡ Some (put_at P r.wanted r.tree) = ap₂ (λ x y. replaced P x y) (sym put) (sym here) ∙ replaced_there P r.wanted r.tree r.stood.0 r.stood.1 in
    (put_at P r.wanted r.tree, r.after, sym (ap (or_refused InvalidPointer) is))

pub replace_stops : (text : List ℕ) (P : Pointer) (i w : Json) (f : StepFault) → Says text i → IsNotMade (LeadsNowhere text P) f → IsStopped i (replace P w) f
replace_stops text P i w (step.Refused kind) said h = ap Err h.0 ∙ sym (ap (or_refused InvalidPointer) (replaced_nowhere text P w i said h.1))
replace_stops text P i w (step.Memory m) said h = tt

-- ---- what stands at `from`

abbrev Source : List ℕ → Pointer → Json → List ℕ → Type 0
Source text F i s = (v : Json) × (tree_at F i ≡ Some v) × IsShallowText s v × IsShallowText text i

pub source : (text : List ℕ) (F : Pointer) (i : Json) (s : List ℕ) (a : (j : Json) × IsShallowText text j × IsWrittenAt text j F s) → Says text i → Source text F i s
source text F i s (j, shallow, (before, behind, whole, (v, at, stretch))) said =
    let same = one_tree text j i shallow.0 said in
    (v, subst (λ x. tree_at F x ≡ Some v) same at, (stretch.says, part_shallow F j v at shallow.1), subst (λ x. IsShallowText text x) same shallow)

pub nowhere : (text : List ℕ) (F : Pointer) (i : Json) → (j : Json) × IsShallowText text j × (tree_at F j ≡ None) → Says text i → tree_at F i ≡ None
nowhere text F i (j, shallow, none) said = subst (λ x. tree_at F x ≡ None) (one_tree text j i shallow.0 said) none

-- s needs no check
pub part_known : (text s v : List ℕ) (F : Pointer) → (j : Json) × IsShallowText text j × IsWrittenAt text j F s → v ≡ s → (w : Json) × IsShallowText v w
part_known text s v F (j, shallow, (before, behind, whole, between)) e = subst (λ x. (w : Json) × IsShallowText x w) (sym e) (part_says text before s behind F j shallow between)

-- ---- copy

pub copy_none : (text : List ℕ) (F P : Pointer) (i : Json) → (j : Json) × IsShallowText text j × (tree_at F j ≡ None) → Says text i → ComesTo i (copy F P) (Err InvalidFromPointer)
copy_none text F P i h said = sym (ap (after_copy i P) (nowhere text F i h said))

pub copy_comes : (text s new : List ℕ) (F P : Pointer) (i : Json) → (j : Json) × IsShallowText text j × IsWrittenAt text j F s → Says text i → IsAdded text P s new → IsLeft new i (copy F P)
copy_comes text s new F P i a said b =
    let (v, at, shallow, whole) = source text F i s a said in
    let left = add_left text s new P i v said shallow.0 b in
    (left.0, left.2, sym (ap (after_copy i P) at ∙ ap (or_refused InvalidPointer) left.1))

pub copy_stops : (text s : List ℕ) (F P : Pointer) (i : Json) (f : StepFault) → (j : Json) × IsShallowText text j × IsWrittenAt text j F s → Says text i → IsNotMade (HasNoPlace text P) f → IsStopped i (copy F P) f
copy_stops text s F P i (step.Refused kind) a said h =
    let (v, at, shallow, whole) = source text F i s a said in
    ap Err h.0 ∙ sym (ap (after_copy i P) at ∙ ap (or_refused InvalidPointer) (no_place text P v i said h.1))
copy_stops text s F P i (step.Memory m) a said h = tt

-- what comes of a call that adds s, which stands at F
pub copied_tree : (text s new : List ℕ) (F P : Pointer) (r : Result (Option ℕ) StepFault) → (j : Json) × IsShallowText text j × IsWrittenAt text j F s → IfOk r (λ deeper. IsAdded text P s new) → IfOk r (λ deeper. (i : Json) → Says text i → IsLeft new i (copy F P))
copied_tree text s new F P (Ok deeper) a h = λ i said. copy_comes text s new F P i a said h
copied_tree text s new F P (Err f) a h = tt

pub copied_stopped : (text s : List ℕ) (F P : Pointer) (r : Result (Option ℕ) StepFault) → (j : Json) × IsShallowText text j × IsWrittenAt text j F s → IfErr r (IsNotMade (HasNoPlace text P)) → IfErr r (λ f. (i : Json) → Says text i → IsStopped i (copy F P) f)
copied_stopped text s F P (Ok deeper) a h = tt
copied_stopped text s F P (Err f) a h = λ i said. copy_stops text s F P i f a said h

-- ---- move

abbrev moves : Bool → Pointer → Option Json → Option Json → Result Json PatchErrorKind
moves b P o p = if b then Err CannotMoveInsideItself else after_move P o p

pub move_inside : (F P : Pointer) (i : Json) → IsProperPrefix F P → ComesTo i (move F P) (Err CannotMoveInsideItself)
move_inside F P i h = sym (ap (λ b. moves b P (tree_at F i) (removed F i)) (prefix_begins F P h))

moved_whole : (P : Pointer) (o : Option Json) → after_move P o None ≡ Err InvalidFromPointer
moved_whole P None = refl
moved_whole P (Some v) = refl

pub move_whole : (text : List ℕ) (F P : Pointer) (i : Json) → (IsProperPrefix F P → ⊥) → HasNothingToRemove text F → Says text i → ComesTo i (move F P) (Err InvalidFromPointer)
move_whole text F P i out h said =
    sym (ap (λ b. moves b P (tree_at F i) (removed F i)) (not_begins F P out) ∙ ap (after_move P (tree_at F i)) (removed_nothing text F i said h) ∙ moved_whole P (tree_at F i))

-- what is put in is no deeper than what it was taken from
abbrev Taken : List ℕ → Pointer → Json → Json → Type 0
Taken less F i m = (removed F i ≡ Some m) × IsShallowText less m

taken : (text less : List ℕ) (F : Pointer) (i : Json) → IsShallowText text i → IsRemoved text F less → (m : Json) × Taken less F i m
taken text less F i s r =
    let left = removed_tree text F less i s.0 r in
    let lower : depth left.0 ≤ depth i = left.3 in
    let most : depth i ≤ max_depth = s.1 in
    (left.0, (left.1, (left.2, omega arith)))

pub move_comes : (text s less new : List ℕ) (F P : Pointer) (i : Json) → (IsProperPrefix F P → ⊥) → (j : Json) × IsShallowText text j × IsWrittenAt text j F s → Says text i → IsRemoved text F less → IsAdded less P s new → IsLeft new i (move F P)
move_comes text s less new F P i out a said r b =
    let (v, at, shallow, whole) = source text F i s a said in
    let (m, (is, lower)) = taken text less F i whole r in
    let left = add_left less s new P m v lower.0 shallow.0 b in
    (left.0, left.2, sym (ap (λ b. moves b P (tree_at F i) (removed F i)) (not_begins F P out) ∙ ap₂ (after_move P) at is ∙ ap (or_refused InvalidPointer) left.1))

pub move_stops : (text s less : List ℕ) (F P : Pointer) (i : Json) (f : StepFault) → (IsProperPrefix F P → ⊥) → (j : Json) × IsShallowText text j × IsWrittenAt text j F s → Says text i → IsRemoved text F less → IsNotMade (HasNoPlace less P) f → IsStopped i (move F P) f
move_stops text s less F P i (step.Refused kind) out a said r h =
    let (v, at, shallow, whole) = source text F i s a said in
    let (m, (is, lower)) = taken text less F i whole r in
    ap Err h.0 ∙ sym (ap (λ b. moves b P (tree_at F i) (removed F i)) (not_begins F P out) ∙ ap₂ (after_move P) at is ∙ ap (or_refused InvalidPointer) (no_place less P v m lower.0 h.1))
move_stops text s less F P i (step.Memory e) out a said r h = tt

-- what comes of a call that adds s, which stood at F, where this is removed
pub moved_bytes : (text s less new : List ℕ) (F P : Pointer) (r : Result (Option ℕ) StepFault) → (j : Json) × IsShallowText text j × IsWrittenAt text j F s → IsRemoved text F less → IfOk r (λ deeper. IsAdded less P s new) → IfOk r (λ deeper. IsMoved text F P new)
moved_bytes text s less new F P (Ok deeper) (j, shallow, written) gone h = (j, s, less, shallow.0, written, gone, h)
moved_bytes text s less new F P (Err f) a gone h = tt

pub moved_tree : (text s less new : List ℕ) (F P : Pointer) (r : Result (Option ℕ) StepFault) → (IsProperPrefix F P → ⊥) → (j : Json) × IsShallowText text j × IsWrittenAt text j F s → IsRemoved text F less → IfOk r (λ deeper. IsAdded less P s new)
    → IfOk r (λ deeper. (i : Json) → Says text i → IsLeft new i (move F P))
moved_tree text s less new F P (Ok deeper) out a gone h = λ i said. move_comes text s less new F P i out a said gone h
moved_tree text s less new F P (Err f) out a gone h = tt

pub moved_stopped : (text s less : List ℕ) (F P : Pointer) (r : Result (Option ℕ) StepFault) → (IsProperPrefix F P → ⊥) → (j : Json) × IsShallowText text j × IsWrittenAt text j F s → IsRemoved text F less → IfErr r (IsNotMade (HasNoPlace less P))
    → IfErr r (λ f. (i : Json) → Says text i → IsStopped i (move F P) f)
moved_stopped text s less F P (Ok deeper) out a gone h = tt
moved_stopped text s less F P (Err f) out a gone h = λ i said. move_stops text s less F P i f out a said gone h

-- the fault of a part is that of the whole
pub as_stopped : {A : Type 0} (Q : StepFault → Type 0) (r : Result A StepFault) (f : StepFault) → IsErrAnd r (λ x. x ≡ f) → Q f → IfErr r Q
as_stopped Q (Ok a) f e h = tt
as_stopped Q (Err g) f e h = subst Q (sym e) h

-- ---- test

pub test_none : (text : List ℕ) (P : Pointer) (i w : Json) → (j : Json) × IsShallowText text j × (tree_at P j ≡ None) → Says text i → ComesTo i (test P w) (Err InvalidPointer)
test_none text P i w h said = subst (λ o. Tests i w o (Err InvalidPointer)) (sym (nowhere text P i h said)) refl

-- what is decided of the two texts
abbrev Compares : List ℕ → List ℕ → Bool → Type 0
Compares a b same = (v w : Json) → IsShallowText a v → IsShallowText b w → Decides same (SameTree v w)

pub test_comes : (text s value : List ℕ) (P : Pointer) (i w : Json) → (j : Json) × IsShallowText text j × IsWrittenAt text j P s → Says text i → IsShallowText value w → Compares s value true → ComesTo i (test P w) (Ok i)
test_comes text s value P i w a said t h =
    let (v, at, shallow, whole) = source text P i s a said in
    subst (λ o. Tests i w o (Ok i)) (sym at) ((h v w shallow t).0 refl, refl)

pub test_stops : (text s value : List ℕ) (P : Pointer) (i w : Json) → (j : Json) × IsShallowText text j × IsWrittenAt text j P s → Says text i → IsShallowText value w → Compares s value false → ComesTo i (test P w) (Err TestFailed)
test_stops text s value P i w a said t h =
    let (v, at, shallow, whole) = source text P i s a said in
    subst (λ o. Tests i w o (Err TestFailed)) (sym at) ((λ same. let no : false ≡ true = (h v w shallow t).1 same in cc), refl)

pub same_itself : (j : Json) → SameTree j j
same_itself j = (same_exactly j j).1 (λ r. (AreSame-document (data_of r j) (data_of r j) (IsDocument-data_of r j)).1 refl)

-- equal texts say the same
pub equal_texts : (a b : List ℕ) (v w : Json) → a ≡ b → IsShallowText a v → IsShallowText b w → SameTree v w
equal_texts a b v w e s t = subst (SameTree v) (one_tree b v w (subst (λ x. Says x v) e s.0) t.0) (same_itself v)

-- the trees that are compared are those that the texts say
pub compared : (a b : List ℕ) (x y v w : Json) (same : Bool) → document a ≡ Some x → document b ≡ Some y → IsShallowText a v → IsShallowText b w → Decides same (SameTree x y) → Decides same (SameTree v w)
compared a b x y v w same e f s t h =
    let p : x ≡ v = same_Some x v (sym e ∙ (read_is a v).1 s) in
    let q : y ≡ w = same_Some y w (sym f ∙ (read_is b w).1 t) in
    subst (λ z. Decides same (SameTree v z)) q (subst (λ z. Decides same (SameTree z y)) p h)

-- what a call answers of two texts
pub answered : {E : Type 0} (a b : List ℕ) (r : Result Bool E) (same is : Bool) → r ≡ Ok same → same ≡ is → ((v w : Json) → IsShallowText a v → IsShallowText b w → IfOk r (λ same. Decides same (SameTree v w))) → Compares a b is
answered a b r same is e f h v w s t = subst (λ x. Decides x (SameTree v w)) f (IfOk-at_ok (λ x. Decides x (SameTree v w)) e (h v w s t))
