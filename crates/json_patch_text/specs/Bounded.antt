-- For private clauses: a run of operations on a text, within limits where there are some.
use Rattle.std.specs.Prelude.{◌≡◌, ◌⊎◌, ◌<◌, ◌≤◌, ◌+◌, ℕ, min, List, length, take, Bool, true, false, Option, Some, None, ⊤}
use Rattle.json.specs.Json.{max_depth}
use Rattle.json_patch_limits.specs.declared.limits.LimitKind.{LimitKind}
use Rattle.json_patch_limits.specs.declared.limits.LimitKind.TheVariants as limit
use Rattle.json_patch_text.specs.Logs.{HasLog}
use Rattle.json_patch_text.specs.Made.{AreMadeIn}
use Rattle.json_patch_text.specs.Operations.{TreeOperation}
use Rattle.json_patch_text.specs.Reached.{IsReached}
use Rattle.json_patch_text.specs.WayBack.{IsRecordOverAt}
use Rattle.json_patch_text.specs.Stopped.{IsRunFault}
use Rattle.json_patch_text.specs.Undos.{AreTakenFrom, undo_list}
use Rattle.json_patch_text.specs.Within.{AreMadeWithin, IsTextOverAt, IsTextWithin}
use Rattle.json_patch_text.specs.declared.bounds.Bounds.{Bounds}
use Rattle.json_patch_text.specs.declared.fault.PatchTextFault.{PatchTextFault}
use Rattle.json_patch_text.specs.declared.fault.PatchTextFault.TheVariants.{Document, Patch, Unreadable, Refused, TooDeep, Memory}
use Rattle.json_patch_text.specs.declared.fault.TextLimitFault.{TextLimitFault}
use Rattle.json_patch_text.specs.declared.fault.TextLimitFault.TheVariants as within
use Rattle.json_patch_text.specs.declared.log.Log.{Log}
use Rattle.json_patch_text.specs.declared.operation.TextOperation.{TextOperation}
use Rattle.json_patch_text.specs.declared.undo.Undo.{Undo}
use Rattle.json_lexemes.specs.Skipped.{nesting}

-- how deep a text nests at the most on which an operation works
abbrev pub levels_of : Option Bounds → ℕ
levels_of None = max_depth
levels_of (Some b) = min b.limits.depth max_depth

-- how many bytes a text may have
abbrev pub most_of : Bounds → ℕ
most_of b = b.document + (b.patch + b.limits.copied)

abbrev pub IsUnder : Option Bounds → List ℕ → Type 0
IsUnder None text = ⊤
IsUnder (Some b) text = IsTextWithin b.limits (most_of b) text

-- the operations cost no more than a text may have, nor has the undo's text more, if one is to be kept
abbrev pub IsLogShort : Bounds → Log → Type 0
IsLogShort b log = (log.cost ≤ most_of b) × (log.kept ≡ true → log.size ≤ most_of b)

abbrev pub IsLogUnder : Option Bounds → Log → Type 0
IsLogUnder None log = ⊤
IsLogUnder (Some b) log = IsLogShort b log

-- how a text and what is kept are over the limits
abbrev pub IsStepOver : Bounds → List ℕ → Log → LimitKind → Type 0
IsStepOver b text log limit.TooDeep = b.limits.depth < nesting text
IsStepOver b text log limit.TooMuch = (nesting text ≤ b.limits.depth) × ((most_of b < length text) ⊎ ((most_of b < log.cost) ⊎ ((log.kept ≡ true) × (most_of b < log.size))))

abbrev pub StepOverBy : Option Bounds → List ℕ → Log → LimitKind → Type 0
StepOverBy None text log kind = ⊥
StepOverBy (Some b) text log kind = IsStepOver b text log kind

-- the operations make new of the text; if there are limits, within them, and they cost n bytes in all
abbrev pub AreMadeUnder : Option Bounds → List ℕ → List TextOperation → List ℕ → ℕ → Type 0
AreMadeUnder None text os new n = AreMadeIn text os new
AreMadeUnder (Some b) text os new n = AreMadeWithin b.limits (most_of b) text os new n

abbrev pub IsOverUnder : Option Bounds → List ℕ → List TextOperation → List TreeOperation → ℕ → LimitKind → Type 0
IsOverUnder None text os ops k kind = ⊥
IsOverUnder (Some b) text os ops k kind = IsTextOverAt b.limits (most_of b) text os ops k kind

-- the first k operations have made new of the text so
abbrev pub IsReachedUnder : Option Bounds → List ℕ → List TextOperation → ℕ → List ℕ → ℕ → Type 0
IsReachedUnder b text os k new n = IsReached text os k new × AreMadeUnder b text (take k os) new n

-- what was made before a run ended early
abbrev pub IsLeftUnder : Option Bounds → List ℕ → List TextOperation → PatchTextFault → Type 0
IsLeftUnder b text os (Document f) = ⊤
IsLeftUnder b text os (Patch f) = ⊤
IsLeftUnder b text os (Unreadable e) = ⊤
IsLeftUnder b text os (Refused e) = (left : List ℕ) × (n : ℕ) × AreMadeUnder b text (take e.operation os) left n
IsLeftUnder b text os (TooDeep k) = (left : List ℕ) × (n : ℕ) × AreMadeUnder b text (take k os) left n × (max_depth < nesting left)
IsLeftUnder b text os (Memory m) = ⊤

-- the undo of these is no longer than a text may be, and n bytes are no more
abbrev pub AreShort : Option Bounds → List Undo → ℕ → Type 0
AreShort None us n = ⊤
AreShort (Some b) us n = (length (undo_list us) ≤ most_of b) × (n ≤ most_of b)

-- and the same with what takes the operations back
abbrev pub AreRecordedUnder : Option Bounds → List ℕ → List TextOperation → List ℕ → List Undo → ℕ → Type 0
AreRecordedUnder b text os new us n = AreTakenFrom (IsUnder b) text os new us n × AreShort b us n

abbrev pub IsLoggedUnder : Option Bounds → List ℕ → List TextOperation → List ℕ → Log → Type 0
IsLoggedUnder b text os new log = log.kept ≡ true → (us : List Undo) × HasLog log us × AreRecordedUnder b text os new us log.cost

abbrev pub IsRecordedUntil : Option Bounds → List ℕ → List TextOperation → ℕ → Type 0
IsRecordedUntil b text os k = (left : List ℕ) × (us : List Undo) × (n : ℕ) × AreRecordedUnder b text (take k os) left us n

abbrev pub IsRecordedBefore : Option Bounds → List ℕ → List TextOperation → PatchTextFault → Type 0
IsRecordedBefore b text os (Document f) = ⊤
IsRecordedBefore b text os (Patch f) = ⊤
IsRecordedBefore b text os (Unreadable e) = ⊤
IsRecordedBefore b text os (Refused e) = IsRecordedUntil b text os e.operation
IsRecordedBefore b text os (TooDeep k) = IsRecordedUntil b text os k
IsRecordedBefore b text os (Memory m) = ⊤

abbrev pub IsRecordOverUnder : Option Bounds → List ℕ → List TextOperation → List TreeOperation → ℕ → LimitKind → Type 0
IsRecordOverUnder None text os ops k kind = ⊥
IsRecordOverUnder (Some b) text os ops k kind = IsRecordOverAt b.limits (most_of b) text os ops k kind

-- the operation at k is over; kept says whether what takes the operations back is kept
abbrev pub IsOverBy : Bool → Option Bounds → List ℕ → List TextOperation → List TreeOperation → ℕ → LimitKind → Type 0
IsOverBy false b text os ops k kind = IsOverUnder b text os ops k kind
IsOverBy true b text os ops k kind = IsRecordOverUnder b text os ops k kind

-- why a run of the operations os, which are ops, ends early
abbrev pub IsRunFaultUnder : Bool → Option Bounds → List ℕ → List TextOperation → List TreeOperation → TextLimitFault → Type 0
IsRunFaultUnder kept b text os ops (within.Over e) = IsOverBy kept b text os ops e.operation e.kind
IsRunFaultUnder kept b text os ops (within.Patch f) = IsRunFault text os ops f × IsLeftUnder b text os f × (kept ≡ true → IsRecordedBefore b text os f)
