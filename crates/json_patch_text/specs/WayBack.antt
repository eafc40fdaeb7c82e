-- A JSON text patched, and the text of a patch that leads back (RFC 6902).
use Rattle.std.specs.Prelude.{◌≡◌, ◌⊎◌, ◌≤◌, ◌<◌, ◌+◌, ◌*◌, ℕ, suc, List, ◌++◌, length, take, Some, slice_get, ⊤}
use Rattle.json.specs.Json.{Json}
use Rattle.json_lexemes.specs.Skipped.{nesting}
use Rattle.json_lexemes.specs.Spelled.{Says}
use Rattle.json_patch_laws.specs.Inverse.{ArePlain}
use Rattle.json_patch_limits.specs.declared.limits.LimitKind.{LimitKind}
use Rattle.json_patch_limits.specs.declared.limits.LimitKind.TheVariants as limit
use Rattle.json_patch_limits.specs.declared.limits.Limits.{Limits}
use Rattle.json_patch_text.specs.Inverses.{IsTreeInverse}
use Rattle.json_patch_text.specs.Made.{Costs, IsMadeIn}
use Rattle.json_patch_text.specs.Operations.{TreeOperation, SaysOperations, all_under}
use Rattle.json_patch_text.specs.Patched.{HasTexts}
use Rattle.json_patch_text.specs.Run.{AcceptsText, AcceptsTree}
use Rattle.json_patch_text.specs.TextOperations.{AreWrittenAs, AreWrittenIn}
use Rattle.json_patch_text.specs.Undos.{AreTakenFrom, IsTakenFrom, undo_list}
use Rattle.json_patch_text.specs.Within.{IsFaultWithin, IsTextWithin, most_bytes}
use Rattle.json_patch_text.specs.declared.fault.PatchTextFault.{PatchTextFault}
use Rattle.json_patch_text.specs.declared.fault.PatchTextFault.TheVariants.{Document, Patch, Unreadable, Refused, TooDeep, Memory}
use Rattle.json_patch_text.specs.declared.fault.TextLimitFault.{TextLimitFault}
use Rattle.json_patch_text.specs.declared.fault.TextLimitFault.TheVariants as within
use Rattle.json_patch_text.specs.declared.operation.TextOperation.{TextOperation}
use Rattle.json_patch_text.specs.declared.undo.Undo.{Undo}
use Rattle.json_reading.specs.Reading.{Reading}
use Rattle.json_reading.specs.Trees.{data_of}

-- ---- the way back

-- the operations of the patch lead from what the text says to what the new one says, and those of the undo are their inverse, which
-- leads back: at most two for each, add, remove and replace alone, with no `-` for a place in an array
pub record IsRecorded (text patch new undo : List ℕ) : Type 0 where
  pub i : Json
  pub j : Json
  pub ops : List TreeOperation
  pub back : List TreeOperation
  pub says : Says text i × Says new j
  pub patched : SaysOperations patch ops × AcceptsTree i ops j
  pub inverse : SaysOperations undo back × IsTreeInverse i ops back
  pub leads_back : AcceptsTree j back i
  pub short : length back ≤ 2 * length ops
  pub plain : (r : Reading) → ArePlain (data_of r j) (all_under r back)

-- the undo has each value as it stood in the text before the operation that displaced it
abbrev pub IsUndoText : List ℕ → List ℕ → List ℕ → List ℕ → Type 0
IsUndoText text patch new undo = (os : List TextOperation) × (us : List Undo) × (n : ℕ) × HasTexts patch os × AreTakenFrom (λ t. ⊤) text os new us n × (undo ≡ undo_list us)

-- ---- within limits

-- the operations make new of the text, and us takes them back; each text on the way is within the limits, and neither the undo nor what
-- they copy together, n bytes, is more than a text may have
abbrev pub AreRecordedWithin : Limits → ℕ → List ℕ → List TextOperation → List ℕ → List Undo → ℕ → Type 0
AreRecordedWithin l most text os new us n = AreTakenFrom (IsTextWithin l most) text os new us n × (length (undo_list us) ≤ most) × (n ≤ most)

-- the undo nests two levels deeper than a text may, at the most, and has no more bytes
abbrev pub IsUndoWithin : Limits → ℕ → List ℕ → Type 0
IsUndoWithin l most undo = (nesting undo ≤ 2 + l.depth) × (length undo ≤ most)

-- how a new text is over the limits, or its undo's, or the n bytes that the operations cost
abbrev pub IsRecordOver : Limits → ℕ → List ℕ → List ℕ → ℕ → LimitKind → Type 0
IsRecordOver l most new undo n limit.TooDeep = l.depth < nesting new
IsRecordOver l most new undo n limit.TooMuch = (nesting new ≤ l.depth) × ((most < length new) ⊎ ((most < n) ⊎ (most < length undo)))

-- those before the one at k are recorded so, and with it the list is accepted, but this is over the limits
pub record IsRecordOverAt (l : Limits) (most : ℕ) (text : List ℕ) (os : List TextOperation) (ops : List TreeOperation) (k : ℕ) (kind : LimitKind) : Type 0 where
  pub left : List ℕ
  pub us : List Undo
  pub n : ℕ
  pub before : AreRecordedWithin l most text (take k os) left us n
  pub new : List ℕ
  pub vs : List Undo
  pub m : ℕ
  pub made : (o : TextOperation) × (slice_get os k ≡ Some o) × IsMadeIn left o new × IsTakenFrom left o vs × Costs left o m
  pub accepted : AcceptsText text (take (suc k) ops) new
  pub over : IsRecordOver l most new (undo_list (us ++ vs)) (n + m) kind

-- the patch's text says operations that are recorded within the limits
abbrev pub IsRecordedWithin : Limits → List ℕ → List ℕ → List ℕ → List ℕ → Type 0
IsRecordedWithin l text patch new undo = (os : List TextOperation) × (us : List Undo) × (n : ℕ) × HasTexts patch os × AreRecordedWithin l (most_bytes l text patch) text os new us n × (undo ≡ undo_list us)

-- those before the one at k are
abbrev pub RecordsWithin : Limits → List ℕ → List ℕ → ℕ → Type 0
RecordsWithin l text patch k = (os : List TextOperation) × (left : List ℕ) × (us : List Undo) × (n : ℕ) × HasTexts patch os × AreRecordedWithin l (most_bytes l text patch) text (take k os) left us n

-- where the operation at this one's number was refused, or found too deep a text, those before it
abbrev pub RecordsBefore : Limits → List ℕ → List ℕ → PatchTextFault → Type 0
RecordsBefore l text patch (Document f) = ⊤
RecordsBefore l text patch (Patch f) = ⊤
RecordsBefore l text patch (Unreadable e) = ⊤
RecordsBefore l text patch (Refused e) = RecordsWithin l text patch e.operation
RecordsBefore l text patch (TooDeep k) = RecordsWithin l text patch k
RecordsBefore l text patch (Memory m) = ⊤

-- why the text isn't patched and recorded within them
abbrev pub IsRecordLimitFault : Limits → List ℕ → List ℕ → TextLimitFault → Type 0
IsRecordLimitFault l text patch (within.Over e) = (os : List TextOperation) × (ops : List TreeOperation) × SaysOperations patch ops × AreWrittenAs os ops × AreWrittenIn patch os × IsRecordOverAt l (most_bytes l text patch) text os ops e.operation e.kind
IsRecordLimitFault l text patch (within.Patch f) = IsFaultWithin l text patch f × RecordsBefore l text patch f
