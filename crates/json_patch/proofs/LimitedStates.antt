-- On the way through a list: which operation of its rest is over the limits.
use Rattle.json_patch.proofs.Common.{◌≡◌, ◌≤◌, ◌<◌, ◌+◌, ℕ, zero, suc, List, [], ◌∷◌, length, drop, Option, Some, None, Ok, Err, Bool}
use Rattle.json_patch.proofs.Common.{refl, sym, ap, ◌∙◌, arith, rules, add-one, Data}
use Rattle.json_patch.proofs.Common.{Operation, PatchOperation, PatchErrorKind, operation_of, operations}
use Rattle.json_patch.proofs.Common.{after_step}
use Rattle.json_patch.proofs.Common.{ComesTo, StepFault, path_of}
use Rattle.std.proofs.lemmas.List.{drop_all, length-map}
use Rattle.json_patch.proofs.ProgramRuns.{refused_with}
use Rattle.json_patch_laws.proofs.SharedTokens.{IsAt}
use Rattle.json_patch.specs.Faulting.{Reports}
use Rattle.json_patch_operation.specs.declared.error.PatchFault.{PatchFault}
use Rattle.json_patch_operation.specs.declared.error.PatchFault.TheVariants.{Refused, Memory}
use Rattle.json_patch_limits.specs.declared.limits.LimitFault.TheVariants.{Patch}
use Rattle.json_patch_limits.specs.OverLimits.{IfUnder}
use Rattle.json_patch_limits.specs.OverLimitsComputed.{FirstOver, later_by, over_at, over_later, over_under, then_over}
use Rattle.json_patch_limits.specs.declared.limits.Limits.{Limits}
use Rattle.json_patch_limits.specs.declared.limits.LimitKind.{LimitKind}

drop_at : (os : List PatchOperation) (k : ℕ) (o : PatchOperation) → k < length os → IsAt os k o → drop k (operations os) ≡ operation_of o ∷ drop (suc k) (operations os)
drop_at [] k o less is = absurd (omega arith)
drop_at (x ∷ os) (suc k) o less is = drop_at os k o (omega arith) is
drop_at (x ∷ os) zero o less is = rw is refl

later_suc : (k : ℕ) (o : Option FirstOver) → later_by k (over_later o) ≡ later_by (k + 1) o
later_suc k None = refl
later_suc k (Some (over_at j kind)) = let e : k + suc j ≡ k + 1 + j = omega arith in ap (λ n. Some (over_at n kind)) e

-- the operation of a list that is over is the one of its rest, made on m with the limits r, counted on from k
abbrev pub IsRest : Bool → Option Limits → Data → List PatchOperation → ℕ → Option Limits → Data → Type 0
IsRest b l d os k r m = over_under b l d (operations os) ≡ later_by k (over_under b r m (drop k (operations os)))

pub rest_first : (b : Bool) (l : Option Limits) (d : Data) (os : List PatchOperation) → IsRest b l d os 0 l d
rest_first b l d os = later_zero (over_under b l d (operations os))
  where
    later_zero : (o : Option FirstOver) → o ≡ later_by 0 o
    later_zero None = refl
    later_zero (Some (over_at j kind)) = let e : j ≡ 0 + j = omega arith in ap (λ n. Some (over_at n kind)) e

-- the operation that comes next, charged
abbrev pub IsNextCharged : Bool → Option Limits → Option Limits → Data → Operation → Type 0
IsNextCharged b r s m op = (ops : List Operation) → over_under b r m (op ∷ ops) ≡ then_over (after_step m op) (λ x. over_under b s x ops)

pub rest_next : (b : Bool) (l r s : Option Limits) (d m : Data) (os : List PatchOperation) (k : ℕ) (o : PatchOperation) → k < length os → IsAt os k o → IsRest b l d os k r m → IsNextCharged b r s m (operation_of o)
    → over_under b l d (operations os) ≡ later_by k (then_over (after_step m (operation_of o)) (λ x. over_under b s x (drop (suc k) (operations os))))
rest_next b l r s d m os k o less is rest next = rest ∙ ap (λ ops. later_by k (over_under b r m ops)) (drop_at os k o less is) ∙ ap (later_by k) (next (drop (suc k) (operations os)))

pub rest_more : (b : Bool) (l r s : Option Limits) (d m e : Data) (os : List PatchOperation) (k : ℕ) (o : PatchOperation) → k < length os → IsAt os k o → IsRest b l d os k r m → IsNextCharged b r s m (operation_of o)
    → after_step m (operation_of o) ≡ Ok e → IsRest b l d os (k + 1) s e
rest_more b l r s d m e os k o less is rest next steps =
    rest_next b l r s d m os k o less is rest next
    ∙ ap (λ a. later_by k (then_over a (λ x. over_under b s x (drop (suc k) (operations os))))) steps
    ∙ later_suc k (over_under b s e (drop (suc k) (operations os)))
    ∙ ap (λ n. later_by (k + 1) (over_under b s e (drop n (operations os)))) (sym (add-one k))

-- where the next one is refused, none is over
pub rest_refused : (b : Bool) (l r s : Option Limits) (d m : Data) (kind : PatchErrorKind) (os : List PatchOperation) (k : ℕ) (o : PatchOperation) → k < length os → IsAt os k o → IsRest b l d os k r m → IsNextCharged b r s m (operation_of o)
    → after_step m (operation_of o) ≡ Err kind → over_under b l d (operations os) ≡ None
rest_refused b l r s d m kind os k o less is rest next steps =
    rest_next b l r s d m os k o less is rest next
    ∙ ap (λ a. later_by k (then_over a (λ x. over_under b s x (drop (suc k) (operations os))))) steps

-- where the next one is over, it is the first
pub rest_over : (b : Bool) (l r : Option Limits) (d m : Data) (kind : LimitKind) (os : List PatchOperation) (k : ℕ) (o : PatchOperation) → k < length os → IsAt os k o → IsRest b l d os k r m
    → ((ops : List Operation) → over_under b r m (operation_of o ∷ ops) ≡ Some (over_at 0 kind)) → over_under b l d (operations os) ≡ Some (over_at k kind)
rest_over b l r d m kind os k o less is rest here =
    let e : k + 0 ≡ k = omega arith in
    rest ∙ ap (λ ops. later_by k (over_under b r m ops)) (drop_at os k o less is) ∙ ap (later_by k) (here (drop (suc k) (operations os))) ∙ ap (λ n. Some (over_at n kind)) e

-- at the end none is over
over_empty : (b : Bool) (r : Option Limits) (m : Data) → over_under b r m [] ≡ None
over_empty b r m = search rules

pub rest_end : (b : Bool) (l r : Option Limits) (d m : Data) (os : List PatchOperation) (k : ℕ) → length os ≤ k → IsRest b l d os k r m → over_under b l d (operations os) ≡ None
rest_end b l r d m os k end rest =
    let le : length (operations os) ≤ k = omega (arith, length-map os operation_of) in
    rest ∙ ap (λ ops. later_by k (over_under b r m ops)) (drop_all k (operations os) le) ∙ ap (later_by k) (over_empty b r m)

-- the fault of a run in which the next one is refused: none is over
pub reported_never : (b : Bool) (U : Type 0) (out : PatchFault) (fault : StepFault) (l r s : Option Limits) (d m new : Data) (os : List PatchOperation) (k : ℕ) (o : PatchOperation) → k < length os → IsAt os k o → IsRest b l d os k r m → IsNextCharged b r s m (operation_of o)
    → ComesTo {T = Unit {0}} (Err fault) (after_step m (operation_of o)) new → Reports fault k (path_of (operation_of o)) out → IfUnder {T = U} (Err (Patch out)) (over_under b l d (operations os) ≡ None)
reported_never b U (Refused e) fault l r s d m new os k o less is rest next steps reports =
    rest_refused b l r s d m e.kind os k o less is rest next (refused_with fault (after_step m (operation_of o)) new e.kind reports.0 steps)
reported_never b U (Memory e) fault l r s d m new os k o less is rest next steps reports = tt

-- with no limits none is over
pub never_unlimited : (b : Bool) (l : Option Limits) (d : Data) (ops : List Operation) → l ≡ None → over_under b l d ops ≡ None
never_unlimited b l d ops is = ap (λ x. over_under b x d ops) is
