-- Why a run of operations on a text ends early.
use Rattle.std.specs.Prelude.{◌≡◌, ◌<◌, ℕ, List, length, Some, option_map, slice_get, ⊤}
use Rattle.jsonptr.specs.Text.{Pointer}
use Rattle.json_patch_operation.specs.declared.error.PatchError.{PatchError}
use Rattle.json_patch_text.specs.Made.{IsNoText, IsTooDeepAt}
use Rattle.json_patch_text.specs.Operations.{TreeOperation, SaysNoOperations, path_of}
use Rattle.json_patch_text.specs.Run.{RefusesTextAt}
use Rattle.json_patch_text.specs.declared.fault.PatchTextFault.{PatchTextFault}
use Rattle.json_patch_text.specs.declared.fault.PatchTextFault.TheVariants.{Document, Patch, Unreadable, Refused, TooDeep, Memory}
use Rattle.json_patch_text.specs.declared.fault.StepFault.{StepFault}
use Rattle.json_patch_text.specs.declared.fault.StepFault.TheVariants as step
use Rattle.json_patch_text.specs.declared.operation.TextOperation.{TextOperation}
use Rattle.json_text.specs.declared.fault.TextFault.{TextFault}
use Rattle.json_text.specs.declared.fault.TextFault.TheVariants as text

-- e names the first operation that is refused on what the text says, with its path, and why
abbrev pub NamesFirstIn : List ℕ → List TreeOperation → PatchError → Type 0
NamesFirstIn text ops e = RefusesTextAt text ops e.operation e.kind × (option_map path_of (slice_get ops e.operation) ≡ Some e.path)

-- ---- for private clauses

-- why the document's text isn't read
abbrev pub IsNoDocument : List ℕ → PatchTextFault → Type 0
IsNoDocument text (Document f) = IsNoText text f
IsNoDocument text (Patch f) = ⊥
IsNoDocument text (Unreadable e) = ⊥
IsNoDocument text (Refused e) = ⊥
IsNoDocument text (TooDeep k) = ⊥
IsNoDocument text (Memory m) = ⊤

-- why the patch's text has no operations
abbrev pub IsUnread : List ℕ → PatchTextFault → Type 0
IsUnread patch (Document f) = ⊥
IsUnread patch (Patch f) = IsNoText patch f
IsUnread patch (Unreadable e) = SaysNoOperations patch e.operation e.kind
IsUnread patch (Refused e) = ⊥
IsUnread patch (TooDeep k) = ⊥
IsUnread patch (Memory m) = ⊤

-- a run of the operations os, which are ops, ends so
abbrev pub IsRunFault : List ℕ → List TextOperation → List TreeOperation → PatchTextFault → Type 0
IsRunFault text os ops (Document f) = ⊥
IsRunFault text os ops (Patch f) = ⊥
IsRunFault text os ops (Unreadable e) = ⊥
IsRunFault text os ops (Refused e) = NamesFirstIn text ops e
IsRunFault text os ops (TooDeep k) = (k < length os) × IsTooDeepAt text os k
IsRunFault text os ops (Memory m) = ⊤

-- a refusal has the step's number, path and kind; want of memory may take its place
abbrev pub Reports : StepFault → ℕ → Pointer → PatchTextFault → Type 0
Reports fault n P (Document f) = ⊥
Reports fault n P (Patch f) = ⊥
Reports fault n P (Unreadable e) = ⊥
Reports fault n P (Refused e) = (fault ≡ step.Refused e.kind) × (e.operation ≡ n) × (e.path ≡ P)
Reports fault n P (TooDeep k) = ⊥
Reports fault n P (Memory m) = ⊤

-- which fault that of the document's text becomes, or of the patch's
abbrev pub as_document : TextFault → PatchTextFault
as_document text.NotJson = Document text.NotJson
as_document text.TooDeep = Document text.TooDeep
as_document (text.Memory m) = Memory m

abbrev pub as_patch : TextFault → PatchTextFault
as_patch text.NotJson = Patch text.NotJson
as_patch text.TooDeep = Patch text.TooDeep
as_patch (text.Memory m) = Memory m
