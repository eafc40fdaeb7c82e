-- Runs within limits: which operation is over first, and what the states are like.
use Rattle.json_patch_laws.proofs.Common.{◌≡◌, ◌≤◌, ◌+◌, ◌⊎◌, inl, inr, ℕ, zero, suc, List, [], ◌∷◌, length, take, Option, Some, None}
use Rattle.json_patch_laws.proofs.Common.{Result, Ok, Err, refl, sym, ap, ◌∙◌, subst, arith, rules, Data, IsDocument}
use Rattle.json_patch_laws.proofs.Common.{Operation, AreWhole, IsWholeOp, Leaves, Accepts, after_step, PatchErrorKind, Bool, false, true, ◌++◌, block, inverse, IsInverse}
use Rattle.std.specs.Prelude.{OnOk, OnErr}
use Rattle.json_patch_laws.proofs.Common.{take_all}
use Rattle.serde_json.specs.Data.{depth}
use Rattle.json_patch_limits.proofs.Depths.{step_depth}
use Rattle.json_patch_limits.proofs.Sizes.{block_size, step_size}
use Rattle.json_patch_edit.proofs.StepOutcomes.{leaves_document, leaves_stepped, stepped_leaves}
use Rattle.json_patch_laws.proofs.Blocks.{inverse_only, inverse_step}
use Rattle.json_patch_limits.proofs.Overs.{is_over, is_under, over_is, over_none}
use Rattle.json_patch_limits.specs.OverLimits.{IsUnder, IfOver, IfUnder, IsOverFirst, IsNeverOver, IsNeverOverRecorded, ComesOver, NeverOver, left_of, copied_by, own_sizes, own_size, size, values_size}
use Rattle.json_patch_limits.specs.declared.limits.LimitFault.{LimitFault}
use Rattle.json_patch_limits.specs.declared.limits.LimitFault.TheVariants.{Over, Patch}
use Rattle.json_patch_operation.specs.declared.error.PatchFault.TheVariants.{Refused, Memory}
use Rattle.json_patch_limits.specs.OverLimitsComputed.{over, FirstOver, over_under, over_at, over_later, then_over, or_over, first_over}
use Rattle.json_patch_limits.specs.declared.limits.Limits.{Limits}
use Rattle.json_patch_limits.specs.declared.limits.LimitKind.{LimitKind}

-- ---- the first one

later_some : (o : Option FirstOver) (k : ℕ) (kind : LimitKind) → over_later o ≡ Some (over_at k kind) → (j : ℕ) × (k ≡ suc j) × (o ≡ Some (over_at j kind))
later_some o k kind h = search rules

pub over_first : (b : Bool) (l : Limits) (d : Data) (ops : List Operation) (k : ℕ) (kind : LimitKind) → IsDocument d → AreWhole ops → ComesOver b l d ops k kind → first_over b l d ops ≡ Some (over_at k kind)
over_first b l d [] k kind hd hv h = absurd h
over_first b l d (op ∷ ops) zero kind hd hv h = rw (is_over b l d op kind h) refl
over_first b l d (op ∷ ops) (suc k) kind hd hv h =
    rw (is_under b l d op h.0, leaves_stepped d op h.1.0 hd hv.0 h.1.1, over_first b (left_of b l d op) h.1.0 ops k kind (leaves_document d op h.1.0 hd hv.0 h.1.1) hv.1 h.1.2) refl

module _ (b : Bool) (l : Limits) (d : Data) (op : Operation) (ops : List Operation) (hd : IsDocument d) (hv : IsWholeOp op) where
  over_next : (r : Result Data PatchErrorKind) (k : ℕ) (kind : LimitKind) → after_step d op ≡ r → over b l d op ≡ None
      → ((m : Data) (j : ℕ) → IsDocument m → first_over b (left_of b l d op) m ops ≡ Some (over_at j kind) → ComesOver b (left_of b l d op) m ops j kind)
      → then_over r (λ m. first_over b (left_of b l d op) m ops) ≡ Some (over_at k kind) → ComesOver b l d (op ∷ ops) k kind
  over_next (Ok m) k kind is none more h =
      let leaves : Leaves d op m = stepped_leaves d op m hd hv is in
      let at = later_some (first_over b (left_of b l d op) m ops) k kind h in
      subst (λ n. ComesOver b l d (op ∷ ops) n kind) (sym at.1) (over_none b l d op none, (m, leaves, more m at.0 (leaves_document d op m hd hv leaves) at.2))
  over_next (Err fault) k kind is none more h = cc

  over_on : (o : Option LimitKind) (k : ℕ) (kind : LimitKind) → over b l d op ≡ o
      → ((m : Data) (j : ℕ) → IsDocument m → first_over b (left_of b l d op) m ops ≡ Some (over_at j kind) → ComesOver b (left_of b l d op) m ops j kind)
      → or_over o (then_over (after_step d op) (λ m. first_over b (left_of b l d op) m ops)) ≡ Some (over_at k kind) → ComesOver b l d (op ∷ ops) k kind
  over_on (Some x) k kind is more h =
      let n : zero ≡ k = cc in let same : x ≡ kind = cc in
      subst (λ j. ComesOver b l d (op ∷ ops) j kind) n (over_is b l d op kind (is ∙ ap Some same))
  over_on None k kind is more h = over_next (after_step d op) k kind refl is more h

pub first_is : (b : Bool) (l : Limits) (d : Data) (ops : List Operation) (k : ℕ) (kind : LimitKind) → IsDocument d → AreWhole ops → first_over b l d ops ≡ Some (over_at k kind) → ComesOver b l d ops k kind
first_is b l d [] k kind hd hv is = cc
first_is b l d (op ∷ ops) k kind hd hv is = over_on b l d op ops hd hv.0 (over b l d op) k kind refl (λ m j hm at. first_is b (left_of b l d op) m ops j kind hm hv.1 at) is

-- one at most, and in one way
pub over_once : (b : Bool) (l : Limits) (d : Data) (ops : List Operation) (k : ℕ) (kind : LimitKind) → IsDocument d → AreWhole ops → ComesOver b l d ops k kind → IsOverFirst b l d ops k kind
over_once b l d ops k kind hd hv h = record {
  over = h;
  here = λ j other g.
      let a : first_over b l d ops ≡ Some (over_at k kind) = over_first b l d ops k kind hd hv h in
      let c : first_over b l d ops ≡ Some (over_at j other) = over_first b l d ops j other hd hv g in (cc, cc);
}

pub never_none : (b : Bool) (l : Limits) (d : Data) (ops : List Operation) → IsDocument d → AreWhole ops → first_over b l d ops ≡ None → NeverOver b l d ops
never_none b l d ops hd hv none k kind h = let a : first_over b l d ops ≡ Some (over_at k kind) = over_first b l d ops k kind hd hv h in cc

over_or_never : (b : Bool) (l : Limits) (d : Data) (ops : List Operation) (o : Option FirstOver) → IsDocument d → AreWhole ops → first_over b l d ops ≡ o
    → NeverOver b l d ops ⊎ ((k : ℕ) × (kind : LimitKind) × IsOverFirst b l d ops k kind)
over_or_never b l d ops None hd hv is = inl (never_none b l d ops hd hv is)
over_or_never b l d ops (Some (over_at k kind)) hd hv is = inr (k, kind, over_once b l d ops k kind hd hv (first_is b l d ops k kind hd hv is))

pub over_ends : (b : Bool) (l : Limits) (d : Data) (ops : List Operation) → IsDocument d → AreWhole ops → NeverOver b l d ops ⊎ ((k : ℕ) × (kind : LimitKind) × IsOverFirst b l d ops k kind)
over_ends b l d ops hd hv = over_or_never b l d ops (first_over b l d ops) hd hv refl

-- ---- what a call answers

pub answered_over : {T : Type 0} (b : Bool) (r : Result T LimitFault) (l : Limits) (d : Data) (ops : List Operation) → IsDocument d → AreWhole ops → IfOver r (λ e. over_under b (Some l) d ops ≡ Some (over_at e.operation e.kind))
    → IfOver r (λ e. ComesOver b l d ops e.operation e.kind)
answered_over b (Ok x) l d ops hd hv h = tt
answered_over b (Err (Over e)) l d ops hd hv h = first_is b l d ops e.operation e.kind hd hv h
answered_over b (Err (Patch fault)) l d ops hd hv h = tt

pub answered_never : {T : Type 0} (b : Bool) (r : Result T LimitFault) (l : Limits) (d : Data) (ops : List Operation) → IsDocument d → AreWhole ops → IfUnder r (over_under b (Some l) d ops ≡ None) → IfUnder r (NeverOver b l d ops)
answered_never b (Ok x) l d ops hd hv h = never_none b l d ops hd hv h
answered_never b (Err (Over e)) l d ops hd hv h = tt
answered_never b (Err (Patch (Refused e))) l d ops hd hv h = never_none b l d ops hd hv h
answered_never b (Err (Patch (Memory e))) l d ops hd hv h = tt

-- ---- what a list leaves that is never over

pub under_first : (b : Bool) (l : Limits) (d : Data) (op : Operation) (ops : List Operation) → NeverOver b l d (op ∷ ops) → (o : Option LimitKind) → over b l d op ≡ o → IsUnder b l d op
under_first b l d op ops h None is = over_none b l d op is
under_first b l d op ops h (Some kind) is = absurd (h zero kind (over_is b l d op kind is))

pub never_rest : (b : Bool) (l : Limits) (d : Data) (op : Operation) (ops : List Operation) (m : Data) → NeverOver b l d (op ∷ ops) → Leaves d op m → NeverOver b (left_of b l d op) m ops
never_rest b l d op ops m h leaves k kind g = h (suc k) kind (under_first b l d op ops h (over b l d op) refl, (m, leaves, g))

-- no state is deeper than the limit
pub run_depth : (b : Bool) (l : Limits) (d : Data) (ops : List Operation) (k : ℕ) (m : Data) → IsDocument d → AreWhole ops → NeverOver b l d ops → depth d ≤ l.depth → Accepts d (take k ops) m → depth m ≤ l.depth
run_depth b l d ops zero m hd hv never h run = rw (← run) h
run_depth b l d [] (suc k) m hd hv never h run = rw (← run) h
run_depth b l d (op ∷ ops) (suc k) m hd hv never h run =
    let under : IsUnder b l d op = under_first b l d op ops never (over b l d op) refl in
    run_depth b (left_of b l d op) run.0 ops k m (leaves_document d op run.0 hd hv.0 run.1) hv.1 (never_rest b l d op ops run.0 never run.1) (step_depth d op run.0 l.depth hd hv.0 run.1 h under.0) run.2

-- the end is no larger than the document, with what the operations hold and the limit lets copy
pub run_size : (l : Limits) (d : Data) (ops : List Operation) (e : Data) → IsDocument d → AreWhole ops → IsNeverOver l d ops → Accepts d ops e → size e ≤ size d + (own_sizes ops + l.copied)
run_size l d [] e hd hv never run = rw (← run) (omega arith)
run_size l d (op ∷ ops) e hd hv never run =
    let under : IsUnder false l d op = under_first false l d op ops never (over false l d op) refl in
    let here : size run.0 ≤ size d + (own_size op + copied_by false d op) = step_size d op run.0 hd hv.0 run.1 in
    let more : size e ≤ size run.0 + (own_sizes ops + (left_of false l d op).copied) = run_size (left_of false l d op) run.0 ops e (leaves_document d op run.0 hd hv.0 run.1) hv.1 (never_rest false l d op ops run.0 never run.1) run.2 in
    omega arith

values_joined : (xs ys : List Operation) → values_size (xs ++ ys) ≡ values_size xs + values_size ys
values_joined [] ys = omega arith
values_joined (op ∷ xs) ys = let more : values_size (xs ++ ys) ≡ values_size xs + values_size ys = values_joined xs ys in omega arith

-- so are the end and the values of the inverse together, of a recorded run
recorded_size : (l : Limits) (d : Data) (ops : List Operation) (e : Data) → IsDocument d → AreWhole ops → IsNeverOverRecorded l d ops → Accepts d ops e → size e + values_size (inverse d ops) ≤ size d + (own_sizes ops + l.copied)
recorded_size l d [] e hd hv never run = rw (← run) (omega arith)
recorded_size l d (op ∷ ops) e hd hv never run =
    let under : IsUnder true l d op = under_first true l d op ops never (over true l d op) refl in
    let here : values_size (block d op) + size run.0 ≤ size d + (own_size op + copied_by true d op) = block_size d op run.0 hd hv.0 run.1 in
    let more : size e + values_size (inverse run.0 ops) ≤ size run.0 + (own_sizes ops + (left_of true l d op).copied) = recorded_size (left_of true l d op) run.0 ops e (leaves_document d op run.0 hd hv.0 run.1) hv.1 (never_rest true l d op ops run.0 never run.1) run.2 in
    let both : values_size (inverse d (op ∷ ops)) ≡ values_size (inverse run.0 ops) + values_size (block d op) =
    ap values_size (inverse_step d op ops run.0 hd hv.0 run.1) ∙ values_joined (inverse run.0 ops) (block d op) in
    omega arith

pub inverse_size : (l : Limits) (d : Data) (ops I : List Operation) (e : Data) → IsDocument d → AreWhole ops → IsNeverOverRecorded l d ops → Accepts d ops e → IsInverse d ops I → size e + values_size I ≤ size d + (own_sizes ops + l.copied)
inverse_size l d ops I e hd hv never run is = subst (λ J. size e + values_size J ≤ size d + (own_sizes ops + l.copied)) (sym (inverse_only d ops I hd hv is)) (recorded_size l d ops e hd hv never run)

-- ---- what a call leaves

end_depth : (b : Bool) (l : Limits) (d : Data) (ops : List Operation) (e : Data) → IsDocument d → AreWhole ops → NeverOver b l d ops → depth d ≤ l.depth → Accepts d ops e → depth e ≤ l.depth
end_depth b l d ops e hd hv never h run = run_depth b l d ops (length ops) e hd hv never h (subst (λ xs. Accepts d xs e) (sym (take_all (length ops) ops (omega arith))) run)

pub answered_depth : {T : Type 0} (b : Bool) (r : Result T LimitFault) (l : Limits) (d e : Data) (ops : List Operation) → IsDocument d → AreWhole ops → IfUnder r (over_under b (Some l) d ops ≡ None) → OnOk r (Accepts d ops e) → OnErr r (e ≡ d) → depth d ≤ l.depth → depth e ≤ l.depth
answered_depth b (Ok x) l d e ops hd hv under run same h = end_depth b l d ops e hd hv (never_none b l d ops hd hv under) h run
answered_depth b (Err fault) l d e ops hd hv under run same h = rw same h

pub answered_size : {T : Type 0} (r : Result T LimitFault) (l : Limits) (d e : Data) (ops : List Operation) → IsDocument d → AreWhole ops → IfUnder r (over_under false (Some l) d ops ≡ None) → OnOk r (Accepts d ops e) → OnOk r (size e ≤ size d + (own_sizes ops + l.copied))
answered_size (Ok x) l d e ops hd hv under run = run_size l d ops e hd hv (never_none false l d ops hd hv under) run
answered_size (Err fault) l d e ops hd hv under run = tt
