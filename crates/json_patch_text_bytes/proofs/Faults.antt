-- What is made of bytes that are texts, and why nothing is: a fault of a text is one of a call's reasons.
use Rattle.std.proofs.Common.{◌≡◌, ◌≤◌, ◌<◌, ◌↔◌, [], ◌∷◌, inl, inr, Bool, true, false, ℕ, List, Option, Some, arith, refl, subst, sym}
use Rattle.std.specs.Prelude.{IsUtf8, length, max}
use Rattle.std.proofs.Math.Nat.{max-le}
use Rattle.json_lexemes.specs.Skipped.{nesting}
use Rattle.json_text.specs.declared.fault.TextFault.TheVariants as text
use Rattle.json.specs.Json.{Json}
use Rattle.json_lexemes.specs.Spelled.{Says}
use Rattle.json_diff_text.specs.Differences.{IsFewBetween, IsFewGuarded, IsGuardedPatch, IsMovingPatch, IsPlainPatch, IsRefusedElsewhere, SaySame}
use Rattle.json_merge_text.specs.Merged.{IsMergeOver, IsMergedAlready, IsMergedText, SaysMerged}
use Rattle.json_merge_text.specs.Merged.{most_bytes as merged_bytes}
use Rattle.json_patch.specs.LimitKind.TheVariants.{TooMuch}
use Rattle.json_patch.specs.Limits.{Limits}
use Rattle.json_patch.specs.ReadKind.{ReadKind}
use Rattle.json_patch.specs.ReadKind.TheVariants.{NotAList, NotAnObject, MissingOp, OpNotText, UnknownOp, MissingFrom, FromNotText, BadFrom, MissingPath, PathNotText, BadPath, MissingValue, ValueNotWhole}
use Rattle.json_patch_text.proofs.Counted.{as_many_always}
use Rattle.json_patch_text.specs.Operations.{SaysOperations, TreeOperation}
use Rattle.json_patch_text.specs.Patched.{AcceptsPatch, IsPatchedText}
use Rattle.json_patch_text.specs.WayBack.{IsRecordLimitFault, IsRecordedWithin, IsUndoWithin}
use Rattle.json_patch_text.specs.WayBack.{IsRecorded as IsWayBack}
use Rattle.json_patch_text.specs.Within.{IsPatchedWithin, IsTextLimitFault, IsTextWithin, most_bytes}
use Rattle.json_patch_text.specs.declared.fault.PatchTextFault.TheVariants as run
use Rattle.json_patch_text.specs.declared.fault.TextLimitFault.{TextLimitFault}
use Rattle.json_patch_text.specs.declared.fault.TextLimitFault.TheVariants as within
use Rattle.json_patch_bytes.specs.Failures.{IsFailure}
use Rattle.json_patch_bytes.specs.Reasons.{Reasons}
use Rattle.json_patch_bytes.specs.Kinds.{reading_kind}
use Rattle.json_patch_bytes.specs.Surrogates.{IsNoJsonKind}
use Rattle.json_patch_bytes.specs.declared.kinds.TheConstants.{NOT_JSON}
use Rattle.json_patch_bytes.specs.declared.failure.Failure.{Failure}
use Rattle.json_patch_bytes.specs.declared.failure.Failure.TheVariants as failure
use Rattle.json_patch_text_bytes.specs.Failures.{IsNamed, IsOfText, IsTold, of_fault}
use Rattle.json_patch_text_bytes.specs.Reasons.{of_count, of_patch, of_record, of_text, of_texts}
use Rattle.json_patch_text_bytes.specs.Texts.{HasAtMost, IsDifference, IsGuardedDifference, IsJsonText, IsMergedInto, IsMergedOver, IsNoJsonText, IsNoTextPatch, IsOneTooMany, IsPatched, IsRecorded}

-- ---- the kind of what is wrong with a text

-- a text that is none for the kind 1 is none for the one that is told
pub other_kind : (levels : ℕ) (text : List ℕ) (kind : ℕ) → IsNoJsonText levels text NOT_JSON → IsNoJsonKind text kind → IsNoJsonText levels text kind
other_kind levels text kind (inl (is, utf8, deep)) told = absurd (omega (arith, is))
other_kind levels text kind (inr (one, none)) (inl is) = inr (inl is, none)
other_kind levels text kind (inr (one, none)) (inr unpaired) = inr (inr unpaired, none)

-- what is wrong with an operation is no such kind
late : (why : ReadKind) → NOT_JSON ≡ reading_kind why → ⊥
late NotAList is = omega (arith, is)
late NotAnObject is = omega (arith, is)
late MissingOp is = omega (arith, is)
late OpNotText is = omega (arith, is)
late UnknownOp is = omega (arith, is)
late MissingFrom is = omega (arith, is)
late FromNotText is = omega (arith, is)
late (BadFrom e) is = omega (arith, is)
late MissingPath is = omega (arith, is)
late PathNotText is = omega (arith, is)
late (BadPath e) is = omega (arith, is)
late MissingValue is = omega (arith, is)
late ValueNotWhole is = omega (arith, is)

-- and one that says no patch
pub other_patch : (patch : List ℕ) (kind : ℕ) → IsNoTextPatch patch 0 NOT_JSON → IsNoJsonKind patch kind → IsNoTextPatch patch 0 kind
other_patch patch kind (inl (first, none)) told = inl (first, other_kind 127 patch kind none told)
other_patch patch kind (inr (k, why, utf8, says, at, is)) told = absurd (late why is)

-- ---- a call's own reasons R

module _ (R : Reasons) where
  -- the failure of the document's text, where that is one of them
  own_in : (levels : ℕ) (document : List ℕ) (failure : Failure) → ((kind : ℕ) → IsNoJsonText levels document kind → R.no_document kind)
      → IsFailure (of_text levels document) failure → IsFailure R failure
  own_in levels document (failure.NoDocument kind) own why = own kind why
  own_in levels document (failure.NoPatch operation kind) own why = absurd why
  own_in levels document (failure.Refused e) own why = absurd why
  own_in levels document (failure.Over e) own why = absurd why
  own_in levels document (failure.TooMany k) own why = absurd why
  own_in levels document failure.Memory own why = tt

  -- a failure that is named anew
  pub named_in : (second : List ℕ) (failure told : Failure) → ((kind : ℕ) → IsNoJsonKind second kind → R.no_patch 0 NOT_JSON → R.no_patch 0 kind)
      → IsNamed second failure told → IsFailure R failure → IsFailure R told
  named_in second failure told name (inl same) why = subst (IsFailure R) (sym same) why
  named_in second failure told name (inr (inl memory)) why = subst (IsFailure R) (sym memory) tt
  named_in second failure told name (inr (inr (is, (kind, same, called)))) why =
      subst (IsFailure R) (sym same) (name kind called (subst (IsFailure R) is why))

  told_in : (levels : ℕ) (document second : List ℕ) (failure told : Failure) → ((kind : ℕ) → IsNoJsonText levels document kind → R.no_document kind)
      → ((kind : ℕ) → IsNoJsonKind second kind → R.no_patch 0 NOT_JSON → R.no_patch 0 kind) → ((IsOfText failure → IsJsonText levels document) → IsFailure R failure)
      → IsTold levels document second failure told → IsFailure R told
  told_in levels document second failure told own name why (inl mine) = own_in levels document told own mine
  told_in levels document second failure told own name why (inr (named, is)) = named_in second failure told name named (why is)

-- ---- why a run fails

run_failure : (most : Option ℕ) (l : Limits) (document patch : List ℕ) (fault : TextLimitFault) → HasAtMost most patch → l.depth ≤ 124 → IsUtf8 patch → nesting patch ≤ 127
    → IsTextLimitFault l document patch fault → (IsOfText (of_fault fault) → IsJsonText l.depth document) → IsFailure (of_patch most l document patch) (of_fault fault)
run_failure most l document patch (within.Over e) small few utf8 fits why is = (small, why)
run_failure most l document patch (within.Patch (run.Document text.NotJson)) small few utf8 fits why is = absurd (why (is tt).1.0 (is tt).1.1)
run_failure most l document patch (within.Patch (run.Document text.TooDeep)) small few utf8 fits why is = absurd (omega (arith, few, (is tt).2, why))
run_failure most l document patch (within.Patch (run.Document (text.Memory m))) small few utf8 fits why is = tt
run_failure most l document patch (within.Patch (run.Patch text.NotJson)) small few utf8 fits why is = (is tt, inl (refl, inr (inl refl, λ u. (fits, why))))
run_failure most l document patch (within.Patch (run.Patch text.TooDeep)) small few utf8 fits why is = absurd (omega (arith, fits, why))
run_failure most l document patch (within.Patch (run.Patch (text.Memory m))) small few utf8 fits why is = tt
run_failure most l document patch (within.Patch (run.Unreadable e)) small few utf8 fits why is = (is tt, inr (e.operation, e.kind, utf8, why, refl, refl))
run_failure most l document patch (within.Patch (run.Refused e)) small few utf8 fits why is = (small, why)
run_failure most l document patch (within.Patch (run.TooDeep k)) small few utf8 fits why is = absurd (omega (arith, few, why.0))
run_failure most l document patch (within.Patch (run.Memory m)) small few utf8 fits why is = tt

-- one that is recorded fails for the same but where an operation is refused, or over the limits
record_failure : (most : Option ℕ) (l : Limits) (document patch : List ℕ) (fault : TextLimitFault) → HasAtMost most patch → l.depth ≤ 124 → IsUtf8 patch → nesting patch ≤ 127
    → IsRecordLimitFault l document patch fault → (IsOfText (of_fault fault) → IsJsonText l.depth document) → IsFailure (of_record most l document patch) (of_fault fault)
record_failure most l document patch (within.Over e) small few utf8 fits why is = (small, why)
record_failure most l document patch (within.Patch (run.Document text.NotJson)) small few utf8 fits why is = absurd (why.0 (is tt).1.0 (is tt).1.1)
record_failure most l document patch (within.Patch (run.Document text.TooDeep)) small few utf8 fits why is = absurd (omega (arith, few, (is tt).2, why.0))
record_failure most l document patch (within.Patch (run.Document (text.Memory m))) small few utf8 fits why is = tt
record_failure most l document patch (within.Patch (run.Patch text.NotJson)) small few utf8 fits why is = run_failure most l document patch (within.Patch (run.Patch text.NotJson)) small few utf8 fits why.0 is
record_failure most l document patch (within.Patch (run.Patch text.TooDeep)) small few utf8 fits why is = absurd (omega (arith, fits, why.0))
record_failure most l document patch (within.Patch (run.Patch (text.Memory m))) small few utf8 fits why is = tt
record_failure most l document patch (within.Patch (run.Unreadable e)) small few utf8 fits why is = run_failure most l document patch (within.Patch (run.Unreadable e)) small few utf8 fits why.0 is
record_failure most l document patch (within.Patch (run.Refused e)) small few utf8 fits why is = (small, why)
record_failure most l document patch (within.Patch (run.TooDeep k)) small few utf8 fits why is = absurd (omega (arith, few, why.0.0))
record_failure most l document patch (within.Patch (run.Memory m)) small few utf8 fits why is = tt

-- ---- the texts d and p, which the bytes are

-- the text that is patched within limits is within them itself
flat_at_first : (l : Limits) (text patch new : List ℕ) → IsPatchedWithin l text patch new → nesting text ≤ l.depth
flat_at_first l text patch new ([], n, says, made) = made.0.0.0
flat_at_first l text patch new (o ∷ os, n, says, made) = made.0.0.0

pub is_patched : (l : Limits) (document patch d p new : List ℕ) → d ≡ document → p ≡ patch → IsUtf8 document → IsUtf8 new
    → AcceptsPatch d p new → IsPatchedText d p new → IsPatchedWithin l d p new → IsTextWithin l (most_bytes l d p) new → IsPatched l document patch new
is_patched l document patch d p new same same_patch here utf8 accepted kept within bounded =
    let at : IsPatched l d p new = record {
      text = (subst IsUtf8 (sym same) here, (accepted.2.0, accepted.2.2), flat_at_first l d p new within);
      accepted = accepted;
      kept = kept;
      within = within;
      again = (utf8, (accepted.2.1, accepted.2.3), bounded.0);
    } in
    subst (λ s. IsPatched l s patch new) same (subst (λ s. IsPatched l d s new) same_patch at)

pub is_failure : (most : Option ℕ) (l : Limits) (document patch d p : List ℕ) (fault : TextLimitFault) (failure told : Failure) → d ≡ document → p ≡ patch → HasAtMost most patch → l.depth ≤ 124
    → IsUtf8 patch → nesting patch ≤ 127 → IsTextLimitFault l d p fault → failure ≡ of_fault fault → IsTold l.depth document patch failure told → IsFailure (of_patch most l document patch) told
is_failure most l document patch d p fault failure told same same_patch small few utf8 fits why of first =
    let here : IsTextLimitFault l document patch fault = subst (λ s. IsTextLimitFault l s patch fault) same (subst (λ s. IsTextLimitFault l d s fault) same_patch why) in
    told_in (of_patch most l document patch) l.depth document patch (of_fault fault) told (λ kind none. none) (λ kind called none. (none.0, other_patch patch kind none.1 called))
    (run_failure most l document patch fault small few utf8 fits here) (subst (λ f. IsTold l.depth document patch f told) of first)

-- ---- a patch that is recorded

flat_when_recorded : (l : Limits) (text patch new undo : List ℕ) → IsRecordedWithin l text patch new undo → nesting text ≤ l.depth
flat_when_recorded l text patch new undo ([], us, n, has, taken, is) = taken.0.0.0
flat_when_recorded l text patch new undo (o ∷ os, us, n, has, taken, is) = taken.0.0.0

pub is_recorded : (l : Limits) (document patch d p new undo : List ℕ) → d ≡ document → p ≡ patch → IsUtf8 document → IsUtf8 new → IsUtf8 undo → l.depth ≤ 124
    → AcceptsPatch d p new → IsPatchedText d p new → IsWayBack d p new undo → AcceptsPatch new undo d → IsRecordedWithin l d p new undo
    → IsTextWithin l (most_bytes l d p) new → IsUndoWithin l (most_bytes l d p) undo → IsRecorded l document patch new undo
is_recorded l document patch d p new undo same same_patch here utf8 utf8_undo few accepted kept recorded leads within bounded undo_bounded =
    let at : IsRecorded l d p new undo = record {
      text = (subst IsUtf8 (sym same) here, (accepted.2.0, accepted.2.2), flat_when_recorded l d p new undo within);
      accepted = accepted;
      kept = kept;
      recorded = recorded;
      leads_back = leads;
      within = within;
      again = (utf8, (accepted.2.1, accepted.2.3), bounded.0);
      readable = ((utf8_undo, (leads.1.0, leads.1.1), omega (arith, undo_bounded.0, few)), (leads.0, leads.1));
    } in
    subst (λ s. IsRecorded l s patch new undo) same (subst (λ s. IsRecorded l d s new undo) same_patch at)

pub is_record_failure : (most : Option ℕ) (l : Limits) (document patch d p : List ℕ) (fault : TextLimitFault) (failure told : Failure) → d ≡ document → p ≡ patch → HasAtMost most patch → l.depth ≤ 124
    → IsUtf8 patch → nesting patch ≤ 127 → IsRecordLimitFault l d p fault → failure ≡ of_fault fault → IsTold l.depth document patch failure told → IsFailure (of_record most l document patch) told
is_record_failure most l document patch d p fault failure told same same_patch small few utf8 fits why of first =
    let here : IsRecordLimitFault l document patch fault = subst (λ s. IsRecordLimitFault l s patch fault) same (subst (λ s. IsRecordLimitFault l d s fault) same_patch why) in
    told_in (of_record most l document patch) l.depth document patch (of_fault fault) told (λ kind none. none) (λ kind called none. (none.0, other_patch patch kind none.1 called))
    (record_failure most l document patch fault small few utf8 fits here) (subst (λ f. IsTold l.depth document patch f told) of first)

-- ---- the texts alone

-- why they aren't read is why they aren't patched, or recorded
pub unread_patch : (most : Option ℕ) (l : Limits) (document patch : List ℕ) (failure : Failure) → IsFailure (of_texts most l.depth document patch) failure → IsFailure (of_patch most l document patch) failure
unread_patch most l document patch (failure.NoDocument kind) why = why
unread_patch most l document patch (failure.NoPatch operation kind) why = why
unread_patch most l document patch (failure.Refused e) why = absurd why
unread_patch most l document patch (failure.Over e) why = absurd why
unread_patch most l document patch (failure.TooMany k) why = why
unread_patch most l document patch failure.Memory why = tt

pub unread_record : (most : Option ℕ) (l : Limits) (document patch : List ℕ) (failure : Failure) → IsFailure (of_texts most l.depth document patch) failure → IsFailure (of_record most l document patch) failure
unread_record most l document patch (failure.NoDocument kind) why = why
unread_record most l document patch (failure.NoPatch operation kind) why = why
unread_record most l document patch (failure.Refused e) why = absurd why
unread_record most l document patch (failure.Over e) why = absurd why
unread_record most l document patch (failure.TooMany k) why = why
unread_record most l document patch failure.Memory why = tt

-- ---- the patch's operations are counted

pub few_said : (most n : ℕ) (patch p : List ℕ) → p ≡ patch → n ≤ most → (said : List TreeOperation) × SaysOperations p said × (length said ≡ n) → HasAtMost (Some most) patch
few_said most n patch p same fits (said, says, count) ops others =
    let as_many : length ops ≡ n = as_many_always patch n ops (said, subst (λ s. SaysOperations s said) same says, count) others in
    omega (arith, fits, as_many)

pub one_too_many : (most n : ℕ) (patch p : List ℕ) → p ≡ patch → most < n → (said : List TreeOperation) × SaysOperations p said × (length said ≡ n) → IsOneTooMany (Some most) patch most
one_too_many most n patch p same more (said, says, count) = (refl, (said, subst (λ s. SaysOperations s said) same says, omega (arith, more, count)))

-- why there are too many, or none, is why the texts aren't read
pub counted_texts : (most : Option ℕ) (levels : ℕ) (document patch : List ℕ) (found told : Failure) → IsFailure (of_count most patch) found
    → IsTold levels document patch found told → IsFailure (of_texts most levels document patch) told
counted_texts most levels document patch found told why first =
    told_in (of_texts most levels document patch) levels document patch found told (λ kind none. none) (λ kind called none. (none.0, other_patch patch kind none.1 called)) (here found why) first
  where
    here : (f : Failure) → IsFailure (of_count most patch) f → (IsOfText f → IsJsonText levels document) → IsFailure (of_texts most levels document patch) f
    here (failure.NoDocument kind) none json = absurd none
    here (failure.NoPatch operation kind) none json = (json tt, none)
    here (failure.Refused e) none json = absurd none
    here (failure.Over e) none json = absurd none
    here (failure.TooMany k) more json = (json tt, more)
    here failure.Memory none json = tt

-- ---- a merge

pub is_merged : (l : Limits) (document patch d p new : List ℕ) → d ≡ document → p ≡ patch → IsUtf8 document → nesting document ≤ l.depth → IsUtf8 new → nesting patch ≤ l.depth
    → SaysMerged d p new → (IsMergedAlready d p → new ≡ d) → nesting new ≤ max (nesting d) (nesting p) → IsMergedText d p new → length new ≤ merged_bytes l.copied d p → IsMergedInto l document patch new
is_merged l document patch d p new same same_patch text flat utf8 fits merged unchanged depth kept small =
    let here : IsJsonText l.depth d = (subst IsUtf8 (sym same) text, (merged.0, merged.3), subst (λ s. nesting s ≤ l.depth) (sym same) flat) in let there : nesting p ≤ l.depth = subst (λ s. nesting s ≤ l.depth) (sym same_patch) fits in
    let most : max (nesting d) (nesting p) ≤ l.depth = max-le here.2 there in
    let at : IsMergedInto l d p new = record {
      text = here;
      merged = merged;
      unchanged = unchanged;
      kept = kept;
      small = small;
      again = (utf8, (merged.2, merged.5), omega (arith, depth, most));
    } in
    subst (λ s. IsMergedInto l s patch new) same (subst (λ s. IsMergedInto l d s new) same_patch at)

pub is_merged_over : (l : Limits) (document patch d p : List ℕ) → d ≡ document → p ≡ patch → IsUtf8 document → nesting document ≤ l.depth → IsMergeOver l.copied d p → IsMergedOver l document patch (record { operation = 0; kind = TooMuch })
is_merged_over l document patch d p same same_patch text flat over =
    let kept = over.1 in
    let at : IsMergedOver l document p (record { operation = 0; kind = TooMuch }) =
    ((text, subst (λ s. (j : Json) × Says s j) same (kept.0, kept.2), flat), refl, subst (λ s. IsMergeOver l.copied s p) same over) in
    subst (λ s. IsMergedOver l document s (record { operation = 0; kind = TooMuch })) same_patch at

-- ---- a difference

pub is_difference : (moves : Bool) (l : Limits) (from to a b patch : List ℕ) → a ≡ from → b ≡ to → IsUtf8 from → nesting from ≤ l.depth → IsUtf8 to → nesting to ≤ l.depth
    → AcceptsPatch a patch b → (moves ≡ false → IsPlainPatch a patch) → (moves ≡ true → IsMovingPatch patch) → (SaysOperations patch [] ↔ SaySame a b) → IsFewBetween a b patch → IsDifference moves l from to patch
is_difference moves l from to a b patch same same_to utf8 flat utf8_to flat_to leads plain moving nothing few =
    let at : IsDifference moves l a b patch = record {
      first = (subst IsUtf8 (sym same) utf8, (leads.2.0, leads.2.2), subst (λ s. nesting s ≤ l.depth) (sym same) flat);
      second = (subst IsUtf8 (sym same_to) utf8_to, (leads.2.1, leads.2.3), subst (λ s. nesting s ≤ l.depth) (sym same_to) flat_to);
      leads = leads;
      plain = plain;
      moving = moving;
      nothing = nothing;
      few = few;
    } in
    subst (λ s. IsDifference moves l s to patch) same (subst (λ s. IsDifference moves l a s patch) same_to at)

pub is_guarded_difference : (l : Limits) (from to a b patch : List ℕ) → a ≡ from → b ≡ to → IsUtf8 from → nesting from ≤ l.depth → IsUtf8 to → nesting to ≤ l.depth
    → AcceptsPatch a patch b → IsGuardedPatch a patch → IsRefusedElsewhere a patch → (SaysOperations patch [] ↔ SaySame a b) → IsFewGuarded a b patch → IsGuardedDifference l from to patch
is_guarded_difference l from to a b patch same same_to utf8 flat utf8_to flat_to leads guarded refused nothing few =
    let at : IsGuardedDifference l a b patch = record {
      first = (subst IsUtf8 (sym same) utf8, (leads.2.0, leads.2.2), subst (λ s. nesting s ≤ l.depth) (sym same) flat);
      second = (subst IsUtf8 (sym same_to) utf8_to, (leads.2.1, leads.2.3), subst (λ s. nesting s ≤ l.depth) (sym same_to) flat_to);
      leads = leads;
      guarded = guarded;
      refused = refused;
      nothing = nothing;
      few = few;
    } in
    subst (λ s. IsGuardedDifference l s to patch) same (subst (λ s. IsGuardedDifference l a s patch) same_to at)
