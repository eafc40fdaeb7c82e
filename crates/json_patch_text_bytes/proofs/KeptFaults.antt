-- What is made of a text that is kept, and why nothing is: the text is known to be JSON.
use Rattle.std.proofs.Common.{◌≡◌, ◌≤◌, inl, inr, ℕ, List, arith, refl, rules, subst}
use Rattle.std.specs.Prelude.{IsSomeAnd, IsUtf8, Option, None, Some, length, option_map}
use Rattle.json_kept_text.specs.Kept.{Change}
use Rattle.json_lexemes.specs.Skipped.{nesting}
use Rattle.json_merge_text.specs.Merged.{IsMergedAlready, IsMergedText, SaysMerged}
use Rattle.json_merge_text.specs.Merged.{most_bytes as merged_bytes}
use Rattle.json_patch.specs.Limits.{Limits}
use Rattle.json_patch_bytes.specs.Failures.{IsFailure}
use Rattle.json_patch_bytes.specs.Reasons.{Reasons}
use Rattle.json_patch_bytes.specs.declared.failure.Failure.{Failure}
use Rattle.json_patch_bytes.specs.declared.failure.Failure.TheVariants as failure
use Rattle.json_patch_text.specs.Patched.{AcceptsPatch, IsPatchedText}
use Rattle.json_patch_text.specs.WayBack.{IsRecordLimitFault, IsRecordedWithin, IsUndoWithin}
use Rattle.json_patch_text.specs.WayBack.{IsRecorded as IsWayBack}
use Rattle.json_patch_text.specs.Within.{IsTextLimitFault, IsTextWithin, most_bytes}
use Rattle.json_patch_text.specs.declared.fault.TextLimitFault.{TextLimitFault}
use Rattle.json_patch_text_bytes.proofs.Faults.{counted_texts, is_failure, is_record_failure, is_recorded, unread_patch, unread_record}
use Rattle.json_patch_text_bytes.specs.Failures.{IsNamed, of_fault}
use Rattle.json_patch_text_bytes.specs.Reasons.{of_count, of_kept, of_patch, of_record}
use Rattle.json_patch_text_bytes.specs.Texts.{HasAtMost, IsJsonText, IsMergedInto, IsNoJsonText, IsRecordedIn}

-- ---- a text that is JSON

no_own : (levels : ℕ) (text : List ℕ) (kind : ℕ) → IsJsonText levels text → IsNoJsonText levels text kind → ⊥
no_own levels text kind (utf8, said, low) (inl (is, u, deep)) = omega (arith, low, deep)
no_own levels text kind (utf8, said, low) (inr (one, none)) = (none utf8).1 said.0 said.1

-- none of the reasons is that it isn't
without : (R : Reasons) (told : Failure) → ((kind : ℕ) → R.no_document kind → ⊥) → IsFailure R told → IsFailure (of_kept R) told
without R (failure.NoDocument kind) never why = never kind why
without R (failure.NoPatch operation kind) never why = why
without R (failure.Refused e) never why = why
without R (failure.Over e) never why = why
without R (failure.TooMany k) never why = why
without R failure.Memory never why = why

-- ---- a patch

pub kept_patch_failure : (most : Option ℕ) (l : Limits) (text patch p : List ℕ) (fault : TextLimitFault) (failure told : Failure) → p ≡ patch → HasAtMost most patch → l.depth ≤ 124 → IsUtf8 patch → nesting patch ≤ 127 → IsJsonText l.depth text
    → IsTextLimitFault l text p fault → failure ≡ of_fault fault → IsNamed patch failure told → IsFailure (of_kept (of_patch most l text patch)) told
kept_patch_failure most l text patch p fault failure told same small few utf8 fits json why of named =
    without (of_patch most l text patch) told (λ kind none. no_own l.depth text kind json none) (is_failure most l text patch text p fault failure told refl same small few utf8 fits why of (inr (named, λ speaks. json)))

pub kept_record_failure : (most : Option ℕ) (l : Limits) (text patch p : List ℕ) (fault : TextLimitFault) (failure told : Failure) → p ≡ patch → HasAtMost most patch → l.depth ≤ 124 → IsUtf8 patch → nesting patch ≤ 127 → IsJsonText l.depth text
    → IsRecordLimitFault l text p fault → failure ≡ of_fault fault → IsNamed patch failure told → IsFailure (of_kept (of_record most l text patch)) told
kept_record_failure most l text patch p fault failure told same small few utf8 fits json why of named =
    without (of_record most l text patch) told (λ kind none. no_own l.depth text kind json none) (is_record_failure most l text patch text p fault failure told refl same small few utf8 fits why of (inr (named, λ speaks. json)))

pub recorded_in : (l : Limits) (text patch p new : List ℕ) (last : Option Change) → p ≡ patch → IsUtf8 text → IsUtf8 new → l.depth ≤ 124 → AcceptsPatch text p new → IsPatchedText text p new
    → option_map (λ c. c.before) last ≡ Some text → IsSomeAnd last (λ c. IsWayBack text p new c.inverse) → IsSomeAnd last (λ c. AcceptsPatch new c.inverse text) → IsSomeAnd last (λ c. IsUtf8 c.inverse)
    → IsSomeAnd last (λ c. IsRecordedWithin l text p new c.inverse) → IsTextWithin l (most_bytes l text p) new → IsSomeAnd last (λ c. IsUndoWithin l (most_bytes l text p) c.inverse)
    → IsRecordedIn (record { text = text; limits = l; last = None }) patch (record { text = new; limits = l; last = last })
recorded_in l text patch p new None same utf8 utf8_new few accepted kept before way back utf8_undo within bounded short = absurd way
recorded_in l text patch p new (Some c) same utf8 utf8_new few accepted kept before way back utf8_undo within bounded short = (
  c,
  refl,
  search (rules, before),
  is_recorded l text patch text p new c.inverse refl same utf8 utf8_new utf8_undo few accepted kept way back within bounded short,
)

-- why there are too many operations, or none, is why the text isn't patched, or recorded
pub kept_unread_patch : (most : Option ℕ) (l : Limits) (text patch : List ℕ) (failure told : Failure) → IsJsonText l.depth text → IsFailure (of_count most patch) failure → IsNamed patch failure told
    → IsFailure (of_kept (of_patch most l text patch)) told
kept_unread_patch most l text patch failure told json why named =
    without (of_patch most l text patch) told (λ kind none. no_own l.depth text kind json none)
    (unread_patch most l text patch told (counted_texts most l.depth text patch failure told why (inr (named, λ speaks. json))))

pub kept_unread_record : (most : Option ℕ) (l : Limits) (text patch : List ℕ) (failure told : Failure) → IsJsonText l.depth text → IsFailure (of_count most patch) failure → IsNamed patch failure told
    → IsFailure (of_kept (of_record most l text patch)) told
kept_unread_record most l text patch failure told json why named =
    without (of_record most l text patch) told (λ kind none. no_own l.depth text kind json none)
    (unread_record most l text patch told (counted_texts most l.depth text patch failure told why (inr (named, λ speaks. json))))

-- ---- a merge

pub merged_in : (l : Limits) (text patch p new : List ℕ) → p ≡ patch → IsJsonText l.depth text → IsJsonText l.depth new → SaysMerged text p new → (IsMergedAlready text p → new ≡ text)
    → IsMergedText text p new → length new ≤ merged_bytes l.copied text p → IsMergedInto l text patch new
merged_in l text patch p new same json json_new merged unchanged kept small =
    let at : IsMergedInto l text p new = record { text = json; merged = merged; unchanged = unchanged; kept = kept; small = small; again = json_new } in
    subst (λ s. IsMergedInto l text s new) same at
