-- For private clauses: the failure for a fault, and why a pointer leads to no value's text.
use Rattle.std.specs.Prelude.{◌≡◌, ◌⊎◌, ℕ, List, unwrap_or, ⊤}
use Rattle.json_diff_text.specs.declared.fault.DiffTextFault.{DiffTextFault}
use Rattle.json_diff_text.specs.declared.fault.DiffTextFault.TheVariants as diff
use Rattle.json_diff_text.specs.declared.fault.BothTextFault.{BothTextFault}
use Rattle.json_diff_text.specs.declared.fault.BothTextFault.TheVariants as both
use Rattle.json_merge_text.specs.declared.fault.MergeTextFault.{MergeTextFault}
use Rattle.json_merge_text.specs.declared.fault.MergeTextFault.TheVariants as merge
use Rattle.json_patch.specs.LimitKind.TheVariants as limit
use Rattle.json_text.specs.declared.fault.TextFault.{TextFault}
use Rattle.json_text.specs.declared.fault.TextFault.TheVariants as text
use Rattle.json_patch_text.specs.declared.fault.PatchTextFault.{PatchTextFault}
use Rattle.json_patch_text.specs.declared.fault.PatchTextFault.TheVariants as run
use Rattle.json_patch_text.specs.declared.fault.TextLimitFault.{TextLimitFault}
use Rattle.json_patch_text.specs.declared.fault.TextLimitFault.TheVariants as within
use Rattle.json_patch_bytes.specs.Failures.{IsFailure}
use Rattle.json_patch_bytes.specs.Kinds.{reading_kind}
use Rattle.json_patch_bytes.specs.Surrogates.{IsNoJsonKind}
use Rattle.json_patch_bytes.specs.declared.kinds.TheConstants.{NOT_JSON, TOO_DEEP}
use Rattle.json_patch_bytes.specs.Texts.{IsNoPointer}
use Rattle.json_patch_bytes.specs.declared.failure.Failure.{Failure}
use Rattle.json_patch_bytes.specs.declared.failure.Failure.TheVariants.{NoDocument, NoPatch, Refused, Over, TooMany, Memory}
use Rattle.json_patch_text_bytes.specs.Reasons.{of_text}
use Rattle.json_patch_text_bytes.specs.Texts.{IsJsonText, IsNothingAt}
use Rattle.json_patch_text_bytes.specs.declared.lookup.LookupFault.{LookupFault}
use Rattle.json_patch_text_bytes.specs.declared.lookup.LookupFault.TheVariants as lookup

-- ---- the failure

-- for a fault of the document's text
abbrev pub as_document : TextFault → Failure
as_document text.NotJson = NoDocument NOT_JSON
as_document text.TooDeep = NoDocument TOO_DEEP
as_document (text.Memory m) = Memory

-- for one of the patch's text
abbrev pub as_patch : TextFault → Failure
as_patch text.NotJson = NoPatch 0 NOT_JSON
as_patch text.TooDeep = NoPatch 0 TOO_DEEP
as_patch (text.Memory m) = Memory

-- for that of a run, or of reading its patch
abbrev pub of_reading : PatchTextFault → Failure
of_reading (run.Document f) = as_document f
of_reading (run.Patch f) = as_patch f
of_reading (run.Unreadable e) = NoPatch (unwrap_or e.operation 0) (reading_kind e.kind)
of_reading (run.Refused e) = Refused e
of_reading (run.TooDeep k) = Over (record { operation = k; kind = limit.TooDeep })
of_reading (run.Memory m) = Memory

-- for that of a run within limits
abbrev pub of_fault : TextLimitFault → Failure
of_fault (within.Over e) = Over e
of_fault (within.Patch f) = of_reading f

-- for that of a merge
abbrev pub of_merge_fault : MergeTextFault → Failure
of_merge_fault (merge.Document f) = as_document f
of_merge_fault (merge.Patch f) = as_patch f
of_merge_fault (merge.Memory m) = Memory

-- for that of a difference
abbrev pub of_diff_fault : DiffTextFault → Failure
of_diff_fault (diff.From f) = as_document f
of_diff_fault (diff.To f) = as_patch f
of_diff_fault (diff.Memory m) = Memory

-- for that of two merge patches that are joined
abbrev pub of_both_fault : BothTextFault → Failure
of_both_fault (both.First f) = as_document f
of_both_fault (both.Then f) = as_patch f
of_both_fault (both.Memory m) = Memory

-- ---- what is told

-- it speaks of a text
abbrev pub IsOfText : Failure → Type 0
IsOfText (NoDocument kind) = ⊤
IsOfText (NoPatch operation kind) = ⊤
IsOfText (Refused e) = ⊥
IsOfText (Over e) = ⊥
IsOfText (TooMany k) = ⊤
IsOfText Memory = ⊥

-- the failure, or the same of a second text that isn't JSON, with the kind of that
abbrev pub IsNamed : List ℕ → Failure → Failure → Type 0
IsNamed second failure told = (told ≡ failure) ⊎ ((told ≡ Memory) ⊎ ((failure ≡ NoPatch 0 NOT_JSON) × ((kind : ℕ) × (told ≡ NoPatch 0 kind) × IsNoJsonKind second kind)))

-- where a call fails so, the document's own failure is told, or this one, which speaks of a text only where the document's is JSON
abbrev pub IsTold : ℕ → List ℕ → List ℕ → Failure → Failure → Type 0
IsTold levels document second failure told = IsFailure (of_text levels document) told
    ⊎ (IsNamed second failure told × (IsOfText failure → IsJsonText levels document))

-- ---- a value's text

abbrev pub IsLookupFault : ℕ → List ℕ → List ℕ → LookupFault → Type 0
IsLookupFault levels document pointer (lookup.Document f) = IsFailure (of_text levels document) f
IsLookupFault levels document pointer lookup.NoPointer = IsNoPointer pointer
IsLookupFault levels document pointer lookup.Nothing = IsNothingAt levels document pointer

-- in a text that is kept
abbrev pub IsKeptLookupFault : ℕ → List ℕ → List ℕ → LookupFault → Type 0
IsKeptLookupFault levels text pointer (lookup.Document f) = f ≡ Memory
IsKeptLookupFault levels text pointer lookup.NoPointer = IsNoPointer pointer
IsKeptLookupFault levels text pointer lookup.Nothing = IsNothingAt levels text pointer
