-- What bytes say as a JSON text, whatever its numbers, and what a call makes of it.
use Rattle.std.specs.Prelude.{◌≡◌, ◌≤◌, ◌<◌, ◌⊎◌, ◌↔◌, [], Bool, true, false, ℕ, List, Option, None, Some, IfSome, IsUtf8, length, unwrap_or}
use Rattle.json.specs.Json.{Json}
use Rattle.jsonptr.specs.Text.{Pointer}
use Rattle.json_lexemes.specs.Skipped.{nesting}
use Rattle.json_text.specs.Pointed.{IsWrittenAt, tree_at}
use Rattle.json_kept_text.specs.Kept.{Change, State}
use Rattle.json_lexemes.specs.Spelled.{Says}
use Rattle.json_diff_text.specs.Differences.{IsFewBetween, IsFewGuarded, IsGuardedPatch, IsMovingPatch, IsPlainPatch, IsRefusedElsewhere, SaySame}
use Rattle.json_merge_text.specs.Merged.{IsMergeOver, IsMergedAlready, IsMergedText, SaysMerged, most_bytes}
use Rattle.json_patch.specs.LimitError.{LimitError}
use Rattle.json_patch.specs.LimitKind.TheVariants.{TooMuch}
use Rattle.json_patch.specs.Limits.{Limits}
use Rattle.json_patch.specs.PatchError.{PatchError}
use Rattle.json_patch.specs.ReadKind.{ReadKind}
use Rattle.json_patch_text.specs.Operations.{SaysNoOperations, SaysOperations, TreeOperation}
use Rattle.json_patch_text.specs.Patched.{AcceptsPatch, IsPatchedText}
use Rattle.json_patch_text.specs.Stopped.{NamesFirstIn}
use Rattle.json_patch_text.specs.WayBack.{IsRecordedWithin, RecordsWithin}
use Rattle.json_patch_text.specs.WayBack.{IsRecorded as IsWayBack}
use Rattle.json_patch_text.specs.Within.{IsPatchedWithin, ReachesWithin}
use Rattle.json_patch_bytes.specs.Kinds.{reading_kind}
use Rattle.json_patch_bytes.specs.Surrogates.{HasUnpaired}
use Rattle.json_patch_bytes.specs.declared.kinds.TheConstants.{NOT_JSON, TOO_DEEP, UNPAIRED_SURROGATE}
use Rattle.json_patch_bytes.specs.Texts.{IsTextOfPointer}

-- the bytes are UTF-8 and JSON (RFC 8259) with no unpaired surrogate, and at most so many objects and arrays are open in them at once
abbrev pub IsJsonText : ℕ → List ℕ → Type 0
IsJsonText levels text = IsUtf8 text × ((j : Json) × Says text j) × (nesting text ≤ levels)

-- the bytes are no such text: more are open, or else they are no JSON, perhaps since surrogates keep them from it
abbrev pub IsNoJsonText : ℕ → List ℕ → ℕ → Type 0
IsNoJsonText levels text kind = ((kind ≡ TOO_DEEP) × IsUtf8 text × (levels < nesting text))
    ⊎ (((kind ≡ NOT_JSON) ⊎ ((kind ≡ UNPAIRED_SURROGATE) × HasUnpaired text)) × (IsUtf8 text → (nesting text ≤ levels) × ((j : Json) → ¬ Says text j)))

-- for private clauses: more are open in the bytes, or they are no UTF-8
abbrev pub IsNoFlatText : ℕ → List ℕ → ℕ → Type 0
IsNoFlatText levels text kind = ((kind ≡ TOO_DEEP) × IsUtf8 text × (levels < nesting text)) ⊎ ((kind ≡ NOT_JSON) × ¬ IsUtf8 text)

-- the bytes say no patch: they are no JSON text, or are read as none, whatever its numbers are read as
abbrev pub IsNoTextPatch : List ℕ → ℕ → ℕ → Type 0
IsNoTextPatch text operation kind = ((operation ≡ 0) × IsNoJsonText 127 text kind)
    ⊎ ((k : Option ℕ) × (why : ReadKind) × IsUtf8 text × SaysNoOperations text k why × (operation ≡ unwrap_or k 0) × (kind ≡ reading_kind why))

-- the bytes say a patch, whatever its numbers
abbrev pub IsTextPatch : List ℕ → Type 0
IsTextPatch text = IsJsonText 127 text × ((ops : List TreeOperation) × SaysOperations text ops)

-- it says at most so many operations, if that is limited
abbrev pub HasAtMost : Option ℕ → List ℕ → Type 0
HasAtMost most patch = IfSome most (λ n. (ops : List TreeOperation) → SaysOperations patch ops → length ops ≤ n)

-- it says more, and the one of this number is the first too many
abbrev pub IsOneTooMany : Option ℕ → List ℕ → ℕ → Type 0
IsOneTooMany most patch k = (most ≡ Some k) × ((ops : List TreeOperation) × SaysOperations patch ops × (k < length ops))

-- new is the document's text patched, every byte kept that no operation changes, with each text on the way within the limits
pub record IsPatched (l : Limits) (document patch new : List ℕ) : Type 0 where
  pub text : IsJsonText l.depth document
  pub accepted : AcceptsPatch document patch new
  pub kept : IsPatchedText document patch new
  pub within : IsPatchedWithin l document patch new
  -- so it can be handed in again
  pub again : IsJsonText l.depth new

-- the same, and undo is the text of a patch that leads back from there
pub record IsRecorded (l : Limits) (document patch new undo : List ℕ) : Type 0 where
  pub text : IsJsonText l.depth document
  pub accepted : AcceptsPatch document patch new
  pub kept : IsPatchedText document patch new
  -- the inverse, which leads back: at most two operations for each, add, remove and replace alone
  pub recorded : IsWayBack document patch new undo
  pub leads_back : AcceptsPatch new undo document
  pub within : IsRecordedWithin l document patch new undo
  -- so both can be handed in again, the second as a patch
  pub again : IsJsonText l.depth new
  pub readable : IsTextPatch undo

-- the text that is kept is patched and recorded so
abbrev pub IsRecordedIn : State → List ℕ → State → Type 0
IsRecordedIn k patch e = (c : Change) × (e.last ≡ Some c) × (c.before ≡ k.text) × IsRecorded k.limits k.text patch e.text c.inverse

-- the patch is refused on the document's text, the operations before are made within the limits, and e is which and why
abbrev pub IsRefusedIn : Limits → List ℕ → List ℕ → PatchError → Type 0
IsRefusedIn l document patch e = ((ops : List TreeOperation) × SaysOperations patch ops × NamesFirstIn document ops e)
    × ReachesWithin l document patch e.operation

-- the same of one that is recorded
abbrev pub IsRefusedRecorded : Limits → List ℕ → List ℕ → PatchError → Type 0
IsRefusedRecorded l document patch e = IsRefusedIn l document patch e × RecordsWithin l document patch e.operation

-- new is the document's text with the merge patch merged into it, every byte kept that the merge doesn't change, within the limits
pub record IsMergedInto (l : Limits) (document patch new : List ℕ) : Type 0 where
  pub text : IsJsonText l.depth document
  pub merged : SaysMerged document patch new
  -- it is the document's own where the merge changes nothing of what that says
  pub unchanged : IsMergedAlready document patch → new ≡ document
  pub kept : IsMergedText document patch new
  -- it has at most as many bytes as both texts, and as many more as may be copied
  pub small : length new ≤ most_bytes l.copied document patch
  -- so it can be handed in again
  pub again : IsJsonText l.depth new

-- the merge would leave a longer text than the limits let it
abbrev pub IsMergedOver : Limits → List ℕ → List ℕ → LimitError → Type 0
IsMergedOver l document patch e = IsJsonText l.depth document × (e ≡ record { operation = 0; kind = TooMuch }) × IsMergeOver l.copied document patch

-- the patch leads from what the one text says to what the other says, both of at most so many levels; it has moves where they are asked for
pub record IsDifference (moves : Bool) (l : Limits) (from to patch : List ℕ) : Type 0 where
  pub first : IsJsonText l.depth from
  pub second : IsJsonText l.depth to
  pub leads : AcceptsPatch from patch to
  pub plain : moves ≡ false → IsPlainPatch from patch
  pub moving : moves ≡ true → IsMovingPatch patch
  -- it has no operation exactly where both say the same
  pub nothing : SaysOperations patch [] ↔ SaySame from to
  pub few : IsFewBetween from to patch

-- the same, with a test before each operation that removes or replaces, by which other texts refuse it
pub record IsGuardedDifference (l : Limits) (from to patch : List ℕ) : Type 0 where
  pub first : IsJsonText l.depth from
  pub second : IsJsonText l.depth to
  pub leads : AcceptsPatch from patch to
  pub guarded : IsGuardedPatch from patch
  pub refused : IsRefusedElsewhere from patch
  pub nothing : SaysOperations patch [] ↔ SaySame from to
  pub few : IsFewGuarded from to patch

-- s is the value's text in the document's where the pointer leads
abbrev pub IsValueAt : ℕ → List ℕ → List ℕ → List ℕ → Type 0
IsValueAt levels document pointer s = (j : Json) × (P : Pointer) × IsJsonText levels document × Says document j
    × IsTextOfPointer pointer P × IsWrittenAt document j P s

-- the pointer leads nowhere in what the document's text says
abbrev pub IsNothingAt : ℕ → List ℕ → List ℕ → Type 0
IsNothingAt levels document pointer = (j : Json) × (P : Pointer) × IsJsonText levels document × Says document j
    × IsTextOfPointer pointer P × (tree_at P j ≡ None)
