-- What an operation comes to on a tree, it comes to on its document.
use Rattle.std.proofs.Common.{◌≡◌, ◌⊎◌, inl, inr, Bool, true, false, Option, Some, None, option_map, Result, Ok, Err, if◌then◌else◌, refl, sym, ap, ap₂, ◌∙◌}
use Rattle.json.specs.Json.{Json}
use Rattle.jsonptr.specs.Text.{Pointer}
use Rattle.serde_json.specs.Data.{Data}
use Rattle.json_patch_document.specs.SameComputed.{same}
use Rattle.json_patch_document.proofs.SameDocuments.{same-refl, same-is}
use Rattle.json_patch_edit.specs.RunComputed as run
use Rattle.json_patch_edit.specs.RunComputed.{begins, after_step}
use Rattle.json_patch_operation.specs.declared.error.PatchErrorKind.{PatchErrorKind}
use Rattle.json_patch_operation.specs.declared.error.PatchErrorKind.TheVariants.{TestFailed, InvalidPointer, CannotMoveInsideItself}
use Rattle.json_patch_text.specs.Changed.{added, removed, replaced}
use Rattle.json_patch_text.specs.Operations.{TreeOperation, add, remove, replace, move, copy, test, under}
use Rattle.json_patch_text.specs.Step.{or_refused, after_move, after_copy, Tests, ComesTo}
use Rattle.json_patch_text.proofs.Changes.{pointee_is, replaced_is, added_is, removed_is}
use Rattle.json_reading.specs.Reading.{Reading}
use Rattle.json_reading.specs.Same.{SameTree}
use Rattle.json_reading.specs.Trees.{data_of}
use Rattle.json_reading.proofs.Documents.{IsDocument-data_of}
use Rattle.json_reading.proofs.Told.{some_reading}
use Rattle.json_reading.proofs.Trees.{one_document, same_or_told}
use Rattle.json_text.specs.Pointed.{tree_at}

abbrev Outcome : Type 0
Outcome = Result Json PatchErrorKind

-- the document of what it comes to
abbrev pub read : Reading → Result Json PatchErrorKind → Result Data PatchErrorKind
read r (Ok j) = Ok (data_of r j)
read r (Err kind) = Err kind

refused_read : (r : Reading) (kind : PatchErrorKind) (o : Option Json) (u : Option Data) → u ≡ option_map (data_of r) o → run.or_refused kind u ≡ read r (or_refused kind o)
refused_read r kind None u e = ap (run.or_refused kind) e
refused_read r kind (Some j) u e = ap (run.or_refused kind) e

moved_read : (r : Reading) (P : Pointer) (o p : Option Json) → run.after_move P (option_map (data_of r) o) (option_map (data_of r) p) ≡ read r (after_move P o p)
moved_read r P (Some v) (Some m) = refused_read r InvalidPointer (added P v m) _ (added_is r P v m)
moved_read r P (Some v) None = refl
moved_read r P None (Some m) = refl
moved_read r P None None = refl

move_read : (r : Reading) (P : Pointer) (b : Bool) (o p : Option Json) (u v : Option Data) → u ≡ option_map (data_of r) o → v ≡ option_map (data_of r) p
    → (if b then Err CannotMoveInsideItself else run.after_move P u v) ≡ read r (if b then Err CannotMoveInsideItself else after_move P o p)
move_read r P true o p u v e f = refl
move_read r P false o p u v e f = ap₂ (run.after_move P) e f ∙ moved_read r P o p

copy_read : (r : Reading) (i : Json) (P : Pointer) (o : Option Json) (u : Option Data) → u ≡ option_map (data_of r) o → run.after_copy (data_of r i) P u ≡ read r (after_copy i P o)
copy_read r i P None u e = ap (run.after_copy (data_of r i) P) e
copy_read r i P (Some v) u e = ap (run.after_copy (data_of r i) P) e ∙ refused_read r InvalidPointer (added P v i) _ (added_is r P v i)

-- ---- tests

test_passes : (r : Reading) (i v w : Json) → SameTree v w → run.after_test (data_of r i) (data_of r w) (Some (data_of r v)) ≡ Ok (data_of r i)
test_passes r i v w h =
    let e : same (data_of r v) (data_of r w) ≡ true = ap (λ d. same d (data_of r w)) (one_document r v w h) ∙ same-refl (data_of r w) in
    ap (λ b. if b then Ok (data_of r i) else Err TestFailed) e

not_true : (b : Bool) → (b ≡ true → ⊥) → b ≡ false
not_true true n = absurd (n refl)
not_true false n = refl

test_fails : (i v w : Json) → (SameTree v w → ⊥) → (r : Reading) × (run.after_test (data_of r i) (data_of r w) (Some (data_of r v)) ≡ Err TestFailed)
test_fails i v w n = by (same_or_told v w)
  where
    by : SameTree v w ⊎ ((r : Reading) × (data_of r v ≡ data_of r w → ⊥)) → (r : Reading) × (run.after_test (data_of r i) (data_of r w) (Some (data_of r v)) ≡ Err TestFailed)
    by (inl s) = absurd (n s)
    by (inr (r, d)) =
        (r, ap (λ b. if b then Ok (data_of r i) else Err TestFailed) (not_true (same (data_of r v) (data_of r w)) (λ h. d (same-is (data_of r v) (data_of r w) (IsDocument-data_of r w) h))))

-- ---- each operation

tests_ok : (r : Reading) (i w j : Json) (o : Option Json) (u : Option Data) → u ≡ option_map (data_of r) o → Tests i w o (Ok j) → run.after_test (data_of r i) (data_of r w) u ≡ Ok (data_of r j)
tests_ok r i w j None u e h = cc
tests_ok r i w j (Some v) u e h = ap (run.after_test (data_of r i) (data_of r w)) e ∙ test_passes r i v w h.0 ∙ ap (λ x. Ok (data_of r x)) (sym h.1)

tests_err : (i w : Json) (kind : PatchErrorKind) (o : Option Json) → Tests i w o (Err kind) → (r : Reading) × (run.after_test (data_of r i) (data_of r w) (option_map (data_of r) o) ≡ Err kind)
tests_err i w kind None h = let e : kind ≡ InvalidPointer = cc in (some_reading, ap Err (sym e))
tests_err i w kind (Some v) h = let (r, e) = test_fails i v w h.0 in (r, e ∙ ap Err (sym h.1))

-- what it comes to but for a test
settled : (r : Reading) (i : Json) (op : TreeOperation) (o : Outcome) → ComesTo i op o → ((P : Pointer) (w : Json) → op ≡ test P w → ⊥) → after_step (data_of r i) (under r op) ≡ read r o
settled r i (add P w) o h n = refused_read r InvalidPointer (added P w i) _ (added_is r P w i) ∙ sym (ap (read r) h)
settled r i (remove P) o h n = refused_read r InvalidPointer (removed P i) _ (removed_is r P i) ∙ sym (ap (read r) h)
settled r i (replace P w) o h n = refused_read r InvalidPointer (replaced P w i) _ (replaced_is r P w i) ∙ sym (ap (read r) h)
settled r i (move F P) o h n = move_read r P (begins F P) (tree_at F i) (removed F i) _ _ (pointee_is r F i) (removed_is r F i) ∙ sym (ap (read r) h)
settled r i (copy F P) o h n = copy_read r i P (tree_at F i) _ (pointee_is r F i) ∙ sym (ap (read r) h)
settled r i (test P w) o h n = absurd (n P w refl)

pub comes_ok : (r : Reading) (i : Json) (op : TreeOperation) (j : Json) → ComesTo i op (Ok j) → after_step (data_of r i) (under r op) ≡ Ok (data_of r j)
comes_ok r i (test P w) j h = tests_ok r i w j (tree_at P i) _ (pointee_is r P i) h
comes_ok r i op j h = settled r i op (Ok j) h (λ P w e. cc)

pub comes_err : (i : Json) (op : TreeOperation) (kind : PatchErrorKind) → ComesTo i op (Err kind) → (r : Reading) × (after_step (data_of r i) (under r op) ≡ Err kind)
comes_err i (test P w) kind h = let (r, e) = tests_err i w kind (tree_at P i) h in (r, ap (run.after_test (data_of r i) (data_of r w)) (pointee_is r P i) ∙ e)
comes_err i op kind h = (some_reading, settled some_reading i op (Err kind) h (λ P w e. cc))

-- where it is refused under some reading, it is for this kind
failed_as : (d : Data) (b : Bool) (kind : PatchErrorKind) → (if b then Ok d else Err TestFailed) ≡ Err kind → kind ≡ TestFailed
failed_as d true kind e = cc
failed_as d false kind e = cc

tests_kind : (r : Reading) (i w : Json) (kind other : PatchErrorKind) (o : Option Json) → Tests i w o (Err kind) → run.after_test (data_of r i) (data_of r w) (option_map (data_of r) o) ≡ Err other → other ≡ kind
tests_kind r i w kind other None h e = cc
tests_kind r i w kind other (Some v) h e = failed_as (data_of r i) (same (data_of r v) (data_of r w)) other e ∙ sym h.1

pub comes_kind : (r : Reading) (i : Json) (op : TreeOperation) (kind other : PatchErrorKind) → ComesTo i op (Err kind) → after_step (data_of r i) (under r op) ≡ Err other → other ≡ kind
comes_kind r i (test P w) kind other h e = tests_kind r i w kind other (tree_at P i) h (sym (ap (run.after_test (data_of r i) (data_of r w)) (pointee_is r P i)) ∙ e)
comes_kind r i op kind other h e = let f : after_step (data_of r i) (under r op) ≡ Err kind = settled r i op (Err kind) h (λ P w g. cc) in cc

-- each operation comes to something
tests_comes : (i w : Json) (o : Option Json) → (s : Outcome) × Tests i w o s
tests_comes i w None = (Err InvalidPointer, refl)
tests_comes i w (Some v) = by (same_or_told v w)
  where
    by : SameTree v w ⊎ ((r : Reading) × (data_of r v ≡ data_of r w → ⊥)) → (s : Outcome) × Tests i w (Some v) s
    by (inl s) = (Ok i, (s, refl))
    by (inr (r, d)) = (Err TestFailed, ((λ s. d (one_document r v w s)), refl))

pub comes : (i : Json) (op : TreeOperation) → (o : Result Json PatchErrorKind) × ComesTo i op o
comes i (test P w) = tests_comes i w (tree_at P i)
comes i (add P w) = (_, refl)
comes i (remove P) = (_, refl)
comes i (replace P w) = (_, refl)
comes i (move F P) = (_, refl)
comes i (copy F P) = (_, refl)
