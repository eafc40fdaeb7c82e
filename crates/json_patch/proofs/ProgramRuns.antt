-- A run over a list of operations of the program, one step at a time.
use Rattle.json_patch.proofs.Common.{◌≡◌, ◌+◌, ◌<◌, ℕ, zero, suc, List, [], ◌∷◌, ◌++◌, length, take}
use Rattle.json_patch.proofs.Common.{Some, option_map, Result, Ok, Err, refl, sym, ap, ◌∙◌, subst, add-one, arith}
use Rattle.json_patch.proofs.Common.{rules, Data, ComesTo, IsDocument, block, inverse, Operation, AreWhole, IsWholeOp}
use Rattle.json_patch.proofs.Common.{operation_of, operations, path_of, Accepts, RefusesAt, after_step}
use Rattle.json_patch.proofs.Common.{Leaves, Refuses, PatchErrorKind, PatchOperation, StepFault, slice_get}
use Rattle.json_patch.proofs.Common.{TakeNoMemory, TakesNoMemory, AreTestsThenRemove, NeverShort}
use Rattle.json_patch.specs.Faulting.{Reports}
use Rattle.json_patch.specs.Refusal.{NamesFirst, IfRefused}
use Rattle.json_patch_operation.specs.declared.error.PatchFault.{PatchFault}
use Rattle.json_patch_edit.specs.declared.error.StepFault.TheVariants.{Refused as step_refused, Memory as step_short}
use Rattle.json_patch.specs.Logged.{IsFree, IsTest}
use Rattle.json_patch.specs.Recorded.{Records}
use Rattle.json_patch.specs.declared.log.Keep.{Keep}
use Rattle.json_patch.specs.declared.log.Keep.TheVariants.{Neither}
use Rattle.json_patch_edit.proofs.StepOutcomes.{leaves_document, stepped_leaves, stepped_refuses}
use Rattle.json_patch_laws.proofs.SharedTokens.{IsAt}
use Rattle.json_patch_laws.proofs.Runs.{accepted, accepts_document, accepts_ran}
use Rattle.json_patch_laws.proofs.Blocks.{inverse_back, inverse_joined, inverse_length, inverse_whole, inverse_is}
use Rattle.json_patch_laws.proofs.Plain.{inverse_plain}

-- the state of the run before the operation at k
abbrev pub IsState : Data → List PatchOperation → ℕ → Data → Type 0
IsState d os k m = Accepts d (take k (operations os)) m

-- ---- one more step

leaves_at : (d m e : Data) (x o : PatchOperation) → IsDocument d → AreWhole (operation_of x ∷ []) → d ≡ m → o ≡ x → after_step m (operation_of o) ≡ Ok e → Leaves d (operation_of x) e
leaves_at d m e x o hd hv same is h = stepped_leaves d (operation_of x) e hd hv.0 (ap (λ c. after_step c (operation_of x)) same ∙ ap (λ y. after_step m (operation_of y)) (sym is) ∙ h)

refuses_at : (d m : Data) (kind : PatchErrorKind) (x o : PatchOperation) → IsDocument d → AreWhole (operation_of x ∷ []) → d ≡ m → o ≡ x → after_step m (operation_of o) ≡ Err kind → Refuses d (operation_of x) kind
refuses_at d m kind x o hd hv same is h = stepped_refuses d (operation_of x) kind hd hv.0 (ap (λ c. after_step c (operation_of x)) same ∙ ap (λ y. after_step m (operation_of y)) (sym is) ∙ h)

state_suc : (d m e : Data) (os : List PatchOperation) (k : ℕ) (o : PatchOperation) → IsDocument d → AreWhole (operations os) → k < length os → IsAt os k o → IsState d os k m → after_step m (operation_of o) ≡ Ok e → IsState d os (suc k) e
state_suc d m e (x ∷ os) (suc k) o hd hv less is h s =
    (h.0, h.1, state_suc h.0 m e os k o (leaves_document d (operation_of x) h.0 hd hv.0 h.1) hv.1 (omega arith) is h.2 s)
state_suc d m e os k o hd hv less is h s = search (rules, leaves_at)

pub state_more : (d m e : Data) (os : List PatchOperation) (k : ℕ) (o : PatchOperation) → IsDocument d → AreWhole (operations os) → k < length os → IsAt os k o → IsState d os k m → after_step m (operation_of o) ≡ Ok e → IsState d os (k + 1) e
state_more d m e os k o hd hv less is h s = subst (λ n. IsState d os n e) (sym (add-one k)) (state_suc d m e os k o hd hv less is h s)

pub state_refused : (d m : Data) (kind : PatchErrorKind) (os : List PatchOperation) (k : ℕ) (o : PatchOperation) → IsDocument d → AreWhole (operations os) → k < length os → IsAt os k o → IsState d os k m → after_step m (operation_of o) ≡ Err kind → RefusesAt d (operations os) k kind
state_refused d m kind (x ∷ os) (suc k) o hd hv less is h s =
    (h.0, h.1, state_refused h.0 m kind os k o (leaves_document d (operation_of x) h.0 hd hv.0 h.1) hv.1 (omega arith) is h.2 s)
state_refused d m kind os k o hd hv less is h s = search (rules, refuses_at)

pub whole_at : (os : List PatchOperation) (k : ℕ) (o : PatchOperation) → k < length os → IsAt os k o → AreWhole (operations os) → IsWholeOp (operation_of o)
whole_at (x ∷ os) (suc k) o less is h = whole_at os k o (omega arith) is h.1
whole_at os k o less is h = search rules

-- ---- its ends

pub state_document : (d m : Data) (os : List PatchOperation) (k : ℕ) → IsDocument d → AreWhole (operations os) → IsState d os k m → IsDocument m
state_document d m os zero hd hv h = subst IsDocument h hd
state_document d m [] (suc k) hd hv h = subst IsDocument h hd
state_document d m (x ∷ os) (suc k) hd hv h = state_document h.0 m os k (leaves_document d (operation_of x) h.0 hd hv.0 h.1) hv.1 h.2

-- ---- a refusal

pub path_at : (os : List PatchOperation) (k : ℕ) (o : PatchOperation) → k < length os → IsAt os k o → option_map path_of (slice_get (operations os) k) ≡ Some (path_of (operation_of o))
path_at (x ∷ os) (suc k) o less is = path_at os k o (omega arith) is
path_at os k o less is = search rules

pub refused_with : (fault : StepFault) (wanted : Result Data PatchErrorKind) (new : Data) (kind : PatchErrorKind) → fault ≡ step_refused kind → ComesTo {T = Unit {0}} (Err fault) wanted new → wanted ≡ Err kind
refused_with fault wanted new kind is h = subst (λ f. ComesTo {T = Unit {0}} (Err f) wanted new) is h

-- the fault of a run names what the step refused
pub reported_names : (U : Type 0) (out : PatchFault) (fault : StepFault) (d m new : Data) (os : List PatchOperation) (k : ℕ) (o : PatchOperation) → IsDocument d → AreWhole (operations os) → k < length os → IsAt os k o → IsState d os k m
    → ComesTo {T = Unit {0}} (Err fault) (after_step m (operation_of o)) new → Reports fault k (path_of (operation_of o)) out → IfRefused {T = U} (Err out) (NamesFirst d (operations os))
reported_names U out fault d m new os k o hd hv less is h s r = search (rules, refused_with, state_refused, path_at)

-- ---- the inverse of a run

-- a list up to the operation at k, and that operation
pub take_at : (os : List PatchOperation) (k : ℕ) (o : PatchOperation) → k < length os → IsAt os k o → take (suc k) (operations os) ≡ take k (operations os) ++ operation_of o ∷ []
take_at (x ∷ os) (suc k) o less is = ap (λ ops. operation_of x ∷ ops) (take_at os k o (omega arith) is)
take_at os k o less is = search rules

take_whole : (os : List PatchOperation) (k : ℕ) → AreWhole (operations os) → AreWhole (take k (operations os))
take_whole os zero h = tt
take_whole [] (suc k) h = tt
take_whole (x ∷ os) (suc k) h = (h.0, take_whole os k h.1)

block_after : (m : Data) (op : Operation) (e : Data) → after_step m op ≡ Ok e → inverse m (op ∷ []) ≡ block m op
block_after m op e is = rw is refl

-- what undoes one operation more
pub inverse_more : (d m e : Data) (os : List PatchOperation) (k : ℕ) (o : PatchOperation) → IsDocument d → AreWhole (operations os) → k < length os → IsAt os k o → IsState d os k m
    → after_step m (operation_of o) ≡ Ok e → block m (operation_of o) ++ inverse d (take k (operations os)) ≡ inverse d (take (k + 1) (operations os))
inverse_more d m e os k o hd hv less is h s =
    ap (λ B. B ++ inverse d (take k (operations os))) (sym (block_after m (operation_of o) e s))
    ∙ sym (inverse_joined d (take k (operations os)) (operation_of o ∷ []) m hd (take_whole os k hv) h)
    ∙ sym (ap (inverse d) (ap (λ n. take n (operations os)) (add-one k) ∙ take_at os k o less is))

pub recorded_all : (d e : Data) (os undo : List PatchOperation) → IsDocument d → AreWhole (operations os) → Accepts d (operations os) e → operations undo ≡ inverse d (operations os) → Records d e (operations os) (operations undo)
recorded_all d e os undo hd hv end same =
    let he : IsDocument e = accepts_document d (operations os) e hd hv end in
    let iw : AreWhole (inverse d (operations os)) = inverse_whole d (operations os) e hd hv end in
    subst (Records d e (operations os)) (sym same) (record {
      inverse = inverse_is d (operations os) e hd hv end;
      leads_back = accepted e (inverse d (operations os)) he iw d (accepts_ran e (inverse d (operations os)) d he iw (inverse_back d (operations os) e hd hv end));
      plain = inverse_plain d (operations os) e hd hv end;
      short = inverse_length (operations os) d;
      whole = iw;
    })

-- ---- a run that takes no memory

pub free_within : (os : List PatchOperation) (k : ℕ) (o : PatchOperation) → k < length os → IsAt os k o → TakeNoMemory (operations os) → TakesNoMemory (operation_of o)
free_within (x ∷ os) (suc k) o less is h = free_within os k o (omega arith) is h.1
free_within os k o less is h = search rules

-- a `test`, or the last operation, of which nothing is kept
pub free_at : (os : List PatchOperation) (k : ℕ) (o : PatchOperation) (kept : Keep) → k < length os → IsAt os k o → (suc k ≡ length os → kept ≡ Neither) → AreTestsThenRemove (operations os) → IsFree (operation_of o) kept
free_at (x ∷ []) zero o kept less is last h = rw (is, last refl) (last_free (operation_of x) h)
  where
    last_free : (op : Operation) → AreTestsThenRemove (op ∷ []) → IsFree op Neither
    last_free op h = search rules
free_at (x ∷ y ∷ os) zero o kept less is last h = rw is (first_free (operation_of x) (operation_of y) h)
  where
    first_free : (op next : Operation) → AreTestsThenRemove (op ∷ next ∷ operations os) → IsFree op kept
    first_free op next h = search rules
free_at (x ∷ os) (suc k) o kept less is last h = free_at os k o kept (omega arith) is (λ e. last (ap suc e)) (rest_free (operation_of x) (operations os) h)
  where
    rest_free : (op : Operation) (ops : List Operation) → AreTestsThenRemove (op ∷ ops) → AreTestsThenRemove ops
    rest_free op ops h = search rules
free_at [] k o kept less is last h = search (rules, arith)

-- one that isn't the last
pub test_at : (os : List PatchOperation) (k : ℕ) (o : PatchOperation) → k + 1 < length os → IsAt os k o → AreTestsThenRemove (operations os) → IsTest (operation_of o)
test_at [] k o less is h = search (rules, arith)
test_at (x ∷ []) k o less is h = search (rules, arith)
test_at (x ∷ y ∷ os) zero o less is h = rw is (first_test (operation_of x) (operation_of y) h)
  where
    first_test : (op next : Operation) → AreTestsThenRemove (op ∷ next ∷ operations os) → IsTest op
    first_test op next h = search rules
test_at (x ∷ y ∷ os) (suc k) o less is h = test_at (y ∷ os) k o (omega arith) is (rest_tests (operation_of x) (operation_of y) h)
  where
    rest_tests : (op next : Operation) → AreTestsThenRemove (op ∷ next ∷ operations os) → AreTestsThenRemove (next ∷ operations os)
    rest_tests op next h = search rules

-- what takes no memory isn't stopped where the whole list is accepted
pub not_stopped : (fault : StepFault) (d m new e : Data) (os : List PatchOperation) (k : ℕ) (o : PatchOperation) → IsDocument d → AreWhole (operations os) → k < length os → IsAt os k o → IsState d os k m
    → ComesTo {T = Unit {0}} (Err fault) (after_step m (operation_of o)) new → NeverShort {T = Unit {0}} (Err fault) → Accepts d (operations os) e → ⊥
not_stopped (step_refused kind) d m new e os k o hd hv less is h s light end =
    (accepted d (operations os) hd hv e (accepts_ran d (operations os) e hd hv end)).nowhere k kind (state_refused d m kind os k o hd hv less is h s)
not_stopped (step_short error) d m new e os k o hd hv less is h s light end = light
