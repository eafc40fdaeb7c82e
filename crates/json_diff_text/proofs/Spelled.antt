-- Operations whose values are written otherwise: they say the same.
use Rattle.std.proofs.Common.{rules, ◌↔◌, Bool, true, false, ◌≡◌, ◌≤◌, ◌+◌, ℕ, suc, List, [], ◌∷◌, ◌++◌, Some, option_map, length, map, refl, sym, ap, ◌∙◌, subst, arith}
use Rattle.std.specs.Prelude.{IfOk, IsTrue, MatchResult, Result, Ok, Err}
use Rattle.std.specs.declared.alloc.AllocError.{AllocError}
use Rattle.serde_json.specs.declared.value.Value.{Value}
use Rattle.std.proofs.lemmas.List.{map-append}
use Rattle.serde_json.specs.Data.{Num, Data, depth}
use Rattle.jsonptr.specs.Text.{Pointer}
use Rattle.json_patch_document.specs.ChangeComputed.{pointee}
use Rattle.json_patch_document.specs.Document.{IsDocument}
use Rattle.json_patch_document.specs.Resolve.{StandsAt}
use Rattle.json_patch_edit.proofs.Locations.{found_document}
use Rattle.json_patch_edit.proofs.StepOutcomes.{stands_found}
use Rattle.json_patch_limits.specs.OverLimits.{AreShallow, levels_of}
use Rattle.json_patch_operation.specs.Operation as document
use Rattle.json_patch_operation.specs.Operation.{Operation, IsWholeOp, AreWhole, operation_of, operations, parts_of}
use Rattle.json_patch_operation.specs.declared.operation.PatchOperation.{PatchOperation}
use Rattle.json_diff_text.specs.Renumbered.{renumbered, renumbered_op}
use Rattle.json_diff_text.specs.Spellings.{AreSpellings, IsSpelling, IsSpellingOp}
use Rattle.json_diff_text.proofs.Levels.{AllFitHere, FitsHere, depth_same}
use Rattle.json_diff_text.proofs.Renumbering.{pointee_is}

-- ---- a value

some_one : (a b : Data) → Some a ≡ Some b → a ≡ b
some_one a b e = cc

pub spelled_there : (told written v w here there : Data) (P : Pointer) → IsDocument written → StandsAt told P here → StandsAt written P there → here ≡ v → w ≡ there → IsSpelling told written v w
spelled_there told written v w here there P hw at also is e = (
  (λ h. subst IsDocument (sym e) (found_document written P there hw (stands_found written P there also))),
  (λ f h. some_one (renumbered f w) (renumbered f v) (
      ap (λ x. Some (renumbered f x)) e
      ∙ ap (option_map (renumbered f)) (sym (stands_found written P there also))
      ∙ sym (pointee_is f written P)
      ∙ ap (λ d. pointee d P) (sym h)
      ∙ pointee_is f told P
      ∙ ap (option_map (renumbered f)) (stands_found told P here at)
      ∙ ap (λ x. Some (renumbered f x)) is
      )),
)

pub of_same : (told : Data) (P : Pointer) (here v : Data) (b : Bool) → IsDocument told → StandsAt told P here → (IsDocument here → (IsTrue b ↔ (here ≡ v))) → b ≡ true → here ≡ v
of_same told P here v true ht at exact is = (exact (found_document told P here ht (stands_found told P here at))).0 (search rules)
of_same told P here v false ht at exact is = cc

pub when_ok : (o : Result Value AllocError) (P : Value → Type 0) → MatchResult o P (λ e. ¬ ⊥) → IfOk o P
when_ok (Ok v) P h = h
when_ok (Err e) P h = tt

-- ---- a list of operations

whole_next : (xs : List Operation) (x y : Operation) (ys : List Operation) → (IsWholeOp x → IsWholeOp y) → AreWhole (xs ++ x ∷ ys) → AreWhole ((xs ++ y ∷ []) ++ ys)
whole_next [] x y ys w h = (w h.0, h.1)
whole_next (z ∷ xs) x y ys w h = (h.0, whole_next xs x y ys w h.1)

alike_next : (f : Num → Num) (xs : List Operation) (x y : Operation) (ys : List Operation) → renumbered_op f y ≡ renumbered_op f x → map (renumbered_op f) ((xs ++ y ∷ []) ++ ys) ≡ map (renumbered_op f) (xs ++ x ∷ ys)
alike_next f [] x y ys e = ap (λ o. o ∷ map (renumbered_op f) ys) e
alike_next f (z ∷ xs) x y ys e = ap (λ os. renumbered_op f z ∷ os) (alike_next f xs x y ys e)

pub one_more : (told written : Data) (all xs : List Operation) (x y : Operation) (ys : List Operation) → AreSpellings told written all (xs ++ x ∷ ys) → IsSpellingOp told written x y → AreSpellings told written all ((xs ++ y ∷ []) ++ ys)
one_more told written all xs x y ys h s = ((λ w. whole_next xs x y ys s.0 (h.0 w)), (λ f e. alike_next f xs x y ys (s.1 f e) ∙ h.1 f e))

-- in the code
pub pushed_op : (told written : Data) (all : List Operation) (vs : List PatchOperation) (v : PatchOperation) (new : List PatchOperation) (x : PatchOperation) (xs rest : List PatchOperation) → new ≡ vs ++ v ∷ [] → xs ≡ x ∷ rest
    → AreSpellings told written all (operations vs ++ operations xs) → IsSpellingOp told written (operation_of x) (operation_of v) → AreSpellings told written all (operations new ++ operations rest)
pushed_op told written all vs v new x xs rest p e h s =
    subst (λ os. AreSpellings told written all (os ++ operations rest)) (sym (ap operations p ∙ map-append operation_of vs (v ∷ [])))
    (one_more told written all (operations vs) (operation_of x) (operation_of v) (operations rest) (subst (λ ys. AreSpellings told written all (operations vs ++ operations ys)) e h) s)

-- ---- they reach as deep

fits_renumbered : (f : Num → Num) (n : ℕ) (op : Operation) → FitsHere n op → FitsHere n (renumbered_op f op)
fits_renumbered f n (document.add P v) low = let e = depth_same f v in let h : length P + depth v ≤ n = low in omega (arith, e, h)
fits_renumbered f n (document.remove P) low = tt
fits_renumbered f n (document.replace P v) low = let e = depth_same f v in let h : length P + depth v ≤ n = low in omega (arith, e, h)
fits_renumbered f n (document.move F P) low = absurd low
fits_renumbered f n (document.copy F P) low = absurd low
fits_renumbered f n (document.test P v) low = tt

fits_back : (f : Num → Num) (n : ℕ) (op : Operation) → FitsHere n (renumbered_op f op) → FitsHere n op
fits_back f n (document.add P v) low = let e = depth_same f v in let h : length P + depth (renumbered f v) ≤ n = low in omega (arith, e, h)
fits_back f n (document.remove P) low = tt
fits_back f n (document.replace P v) low = let e = depth_same f v in let h : length P + depth (renumbered f v) ≤ n = low in omega (arith, e, h)
fits_back f n (document.move F P) low = absurd low
fits_back f n (document.copy F P) low = absurd low
fits_back f n (document.test P v) low = tt

all_renumbered : (f : Num → Num) (n : ℕ) (ops : List Operation) → AllFitHere n ops → AllFitHere n (map (renumbered_op f) ops)
all_renumbered f n [] h = tt
all_renumbered f n (op ∷ ops) h = (fits_renumbered f n op h.0, all_renumbered f n ops h.1)

all_back : (f : Num → Num) (n : ℕ) (ops : List Operation) → AllFitHere n (map (renumbered_op f) ops) → AllFitHere n ops
all_back f n [] h = tt
all_back f n (op ∷ ops) h = (fits_back f n op h.0, all_back f n ops h.1)

pub fit_alike : (f : Num → Num) (n : ℕ) (ops os : List Operation) → map (renumbered_op f) os ≡ map (renumbered_op f) ops → AllFitHere n ops → AllFitHere n os
fit_alike f n ops os e h = all_back f n os (subst (AllFitHere n) (sym e) (all_renumbered f n ops h))

levels_same : (f : Num → Num) (op : Operation) → levels_of (parts_of (renumbered_op f op)).value ≡ levels_of (parts_of op).value
levels_same f (document.add P v) = depth_same f v
levels_same f (document.remove P) = refl
levels_same f (document.replace P v) = depth_same f v
levels_same f (document.move F P) = refl
levels_same f (document.copy F P) = refl
levels_same f (document.test P v) = depth_same f v

shallow_renumbered : (f : Num → Num) (n : ℕ) (ops : List Operation) → AreShallow n ops → AreShallow n (map (renumbered_op f) ops)
shallow_renumbered f n [] h = tt
shallow_renumbered f n (op ∷ ops) h = let e = levels_same f op in let low : levels_of (parts_of op).value ≤ n = h.0 in (omega (arith, e, low), shallow_renumbered f n ops h.1)

shallow_back : (f : Num → Num) (n : ℕ) (ops : List Operation) → AreShallow n (map (renumbered_op f) ops) → AreShallow n ops
shallow_back f n [] h = tt
shallow_back f n (op ∷ ops) h = let e = levels_same f op in let low : levels_of (parts_of (renumbered_op f op)).value ≤ n = h.0 in (omega (arith, e, low), shallow_back f n ops h.1)

pub shallow_alike : (f : Num → Num) (n : ℕ) (ops os : List Operation) → map (renumbered_op f) os ≡ map (renumbered_op f) ops → AreShallow n ops → AreShallow n os
shallow_alike f n ops os e h = shallow_back f n os (subst (AreShallow n) (sym e) (shallow_renumbered f n ops h))

mapped_length : (f : Num → Num) (ops : List Operation) → length (map (renumbered_op f) ops) ≡ length ops
mapped_length f [] = refl
mapped_length f (op ∷ ops) = ap suc (mapped_length f ops)

pub as_many : (f : Num → Num) (ops os : List Operation) → map (renumbered_op f) os ≡ map (renumbered_op f) ops → length os ≡ length ops
as_many f ops os e = sym (mapped_length f os) ∙ ap length e ∙ mapped_length f ops
