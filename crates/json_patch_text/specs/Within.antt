-- A JSON text patched within limits: how deep each text on the way nests, how long it is, and what the operations cost.
use Rattle.std.specs.Prelude.{◌≡◌, ◌⊎◌, ◌≤◌, ◌<◌, ◌+◌, ℕ, suc, List, [], ◌∷◌, length, take, Some, slice_get}
use Rattle.json.specs.Json.{Json, max_depth}
use Rattle.json_patch_limits.specs.declared.limits.LimitError.{LimitError}
use Rattle.json_patch_limits.specs.declared.limits.LimitKind.{LimitKind}
use Rattle.json_patch_limits.specs.declared.limits.LimitKind.TheVariants as limit
use Rattle.json_patch_limits.specs.declared.limits.Limits.{Limits}
use Rattle.json_patch_text.specs.Made.{Costs, IsMadeIn}
use Rattle.json_patch_text.specs.Operations.{TreeOperation, SaysOperations}
use Rattle.json_patch_text.specs.Patched.{HasTexts, IsPatchTextFault}
use Rattle.json_patch_text.specs.Run.{AcceptsText}
use Rattle.json_patch_text.specs.TextOperations.{AreWrittenAs, AreWrittenIn}
use Rattle.json_patch_text.specs.declared.fault.PatchTextFault.{PatchTextFault}
use Rattle.json_patch_text.specs.declared.fault.PatchTextFault.TheVariants.{Document, Patch, Unreadable, Refused, TooDeep, Memory}
use Rattle.json_patch_text.specs.declared.fault.TextLimitFault.{TextLimitFault}
use Rattle.json_patch_text.specs.declared.fault.TextLimitFault.TheVariants as within
use Rattle.json_patch_text.specs.declared.operation.TextOperation.{TextOperation}
use Rattle.json_lexemes.specs.Skipped.{nesting}
use Rattle.json_lexemes.specs.Spelled.{Says}
use Rattle.json_text.specs.declared.fault.TextFault.{TextFault}
use Rattle.json_text.specs.declared.fault.TextFault.TheVariants as fault

-- ---- a text and the limits

-- how many bytes a text may have, and the operations of a list may cost together: as many as the document's text and the patch's, and `copied` more
abbrev pub most_bytes : Limits → List ℕ → List ℕ → ℕ
most_bytes l text patch = length text + (length patch + l.copied)

-- the text is within the limits: no more objects and arrays are open at once, and it has no more bytes
abbrev pub IsTextWithin : Limits → ℕ → List ℕ → Type 0
IsTextWithin l most text = (nesting text ≤ l.depth) × (length text ≤ most)

-- or how it is over them, or the n bytes that the operations cost
abbrev pub IsTextOver : Limits → ℕ → List ℕ → ℕ → LimitKind → Type 0
IsTextOver l most text n limit.TooDeep = l.depth < nesting text
IsTextOver l most text n limit.TooMuch = (nesting text ≤ l.depth) × ((most < length text) ⊎ (most < n))

-- ---- a list of operations

-- new is the text with each operation made in turn, each text on the way is within the limits, the first and the last too, and they cost n
-- bytes in all
abbrev pub AreMadeAtCost : Limits → ℕ → List ℕ → List TextOperation → List ℕ → ℕ → Type 0
AreMadeAtCost l most text [] new n = IsTextWithin l most text × (new ≡ text) × (n ≡ 0)
AreMadeAtCost l most text (o ∷ os) new n = IsTextWithin l most text × ((next : List ℕ) × (m : ℕ) × (rest : ℕ) × IsMadeIn text o next × Costs text o m × AreMadeAtCost l most next os new rest × (n ≡ m + rest))

-- and these are no more than a text may have
abbrev pub AreMadeWithin : Limits → ℕ → List ℕ → List TextOperation → List ℕ → ℕ → Type 0
AreMadeWithin l most text os new n = AreMadeAtCost l most text os new n × (n ≤ most)

-- those before the one at k are made so, and with it the list is accepted, but the text that it would leave is over the limits, or what they
-- cost with it, by this
pub record IsTextOverAt (l : Limits) (most : ℕ) (text : List ℕ) (os : List TextOperation) (ops : List TreeOperation) (k : ℕ) (kind : LimitKind) : Type 0 where
  pub left : List ℕ
  pub n : ℕ
  pub before : AreMadeWithin l most text (take k os) left n
  pub new : List ℕ
  pub m : ℕ
  pub made : (o : TextOperation) × (slice_get os k ≡ Some o) × IsMadeIn left o new × Costs left o m
  pub accepted : AcceptsText text (take (suc k) ops) new
  pub over : IsTextOver l most new (n + m) kind

-- ---- the text of a patch

-- the patch's text says operations that make new of the text within the limits
abbrev pub IsPatchedWithin : Limits → List ℕ → List ℕ → List ℕ → Type 0
IsPatchedWithin l text patch new = (os : List TextOperation) × (n : ℕ) × HasTexts patch os × AreMadeWithin l (most_bytes l text patch) text os new n

-- e names the first of them with which they would be over the limits, and how
abbrev pub NamesFirstOver : Limits → List ℕ → List ℕ → LimitError → Type 0
NamesFirstOver l text patch e = (os : List TextOperation) × (ops : List TreeOperation) × SaysOperations patch ops × AreWrittenAs os ops × AreWrittenIn patch os × IsTextOverAt l (most_bytes l text patch) text os ops e.operation e.kind

-- those before the one at k are made within the limits
abbrev pub ReachesWithin : Limits → List ℕ → List ℕ → ℕ → Type 0
ReachesWithin l text patch k = (os : List TextOperation) × (left : List ℕ) × (n : ℕ) × HasTexts patch os × AreMadeWithin l (most_bytes l text patch) text (take k os) left n

-- why the document's text isn't read within the limits
abbrev pub IsNoTextWithin : Limits → List ℕ → TextFault → Type 0
IsNoTextWithin l text fault.NotJson = (j : Json) → ¬ Says text j
IsNoTextWithin l text fault.TooDeep = (l.depth < nesting text) ⊎ (max_depth < nesting text)
IsNoTextWithin l text (fault.Memory m) = ⊥

-- why the text isn't patched, though no operation is over the limits: `TooDeep` comes only where these allow more than 128 levels
abbrev pub IsFaultWithin : Limits → List ℕ → List ℕ → PatchTextFault → Type 0
IsFaultWithin l text patch (Document f) = IsNoTextWithin l text f
IsFaultWithin l text patch (Patch f) = IsPatchTextFault text patch (Patch f)
IsFaultWithin l text patch (Unreadable e) = IsPatchTextFault text patch (Unreadable e)
IsFaultWithin l text patch (Refused e) = IsPatchTextFault text patch (Refused e) × ReachesWithin l text patch e.operation
IsFaultWithin l text patch (TooDeep k) = (max_depth < l.depth) × IsPatchTextFault text patch (TooDeep k) × ReachesWithin l text patch k
IsFaultWithin l text patch (Memory m) = IsPatchTextFault text patch (Memory m)

-- why it isn't patched within them
abbrev pub IsTextLimitFault : Limits → List ℕ → List ℕ → TextLimitFault → Type 0
IsTextLimitFault l text patch (within.Over e) = NamesFirstOver l text patch e
IsTextLimitFault l text patch (within.Patch f) = IsFaultWithin l text patch f
