-- What a call writes, and what it tells beside its status.
use Rattle.std.specs.Prelude.{◌≡◌, ◌≢◌, ◌≤◌, ◌<◌, ◌⊎◌, ◌↔◌, ℕ, List, Result, IsErr, length, take, drop}
use Rattle.jsonptr.specs.Text.{text_of}
use Rattle.json_patch.specs.PatchError.{PatchError}
use Rattle.json_patch.specs.LimitError.{LimitError}
use Rattle.json_patch_bytes.specs.Kinds.{limit_kind, refusal_kind}
use Rattle.json_patch_bytes.specs.Reasons.{Reasons}
use Rattle.json_patch_bytes.specs.declared.kinds.TheConstants.{TOO_MANY}
use Rattle.json_patch_c.specs.declared.given.CallLimits.{CallLimits}
use Rattle.json_patch_c.specs.declared.given.WrongSize.{WrongSize}
use Rattle.json_patch_c.specs.declared.report.Report.{Report}
use Rattle.json_patch_c.specs.declared.status.TheConstants.{BAD_LIMITS, NO_DOCUMENT, NO_MEMORY, NO_PATCH, NO_ROOM, OK, OVER, REFUSED}

-- the text stands at the start, and the rest is as it was
abbrev pub IsPut : List ℕ → List ℕ → List ℕ → Type 0
IsPut text old new = (length text ≤ length old) × (take (length text) new ≡ text) × (drop (length text) new ≡ drop (length text) old)

-- it stands there if there is room for it, and else all is as it was
abbrev pub IsPutIfRoom : List ℕ → List ℕ → List ℕ → Type 0
IsPutIfRoom text old new = (length text ≤ length old → IsPut text old new) × (length old < length text → new ≡ old)

-- these numbers are told
abbrev pub Tells : ℕ → ℕ → ℕ → Report → Type 0
Tells size operation kind report = (report.size ≡ size) × (report.operation ≡ operation) × (report.inverse_size ≡ 0) × (report.kind ≡ kind)

-- the sizes of two texts are told
abbrev pub TellsBoth : ℕ → ℕ → Report → Type 0
TellsBoth size inverse report = (report.size ≡ size) × (report.operation ≡ 0) × (report.inverse_size ≡ inverse) × (report.kind ≡ 0)

-- the number and the kind of the refusal are told, and its path stands at the start of what was there, if there is room
abbrev pub TellsRefusal : PatchError → List ℕ → List ℕ → Report → Type 0
TellsRefusal e old new report = Tells (length (text_of e.path)) e.operation (refusal_kind e.kind) report × IsPutIfRoom (text_of e.path) old new

-- what a call says of a text that it makes, for which P holds
pub record IsTextWritten (P : List ℕ → Type 0) (status : ℕ) (old new : List ℕ) (report : Report) : Type 0 where
  -- OK: the text stands at the start
  pub made : status ≡ OK → (text : List ℕ) × P text × IsPut text old new × Tells (length text) 0 0 report
  -- NO_ROOM: there is less room than it takes
  pub no_room : status ≡ NO_ROOM → (text : List ℕ) × P text × (length old < length text) × Tells (length text) 0 0 report
  pub untouched : status ≡ NO_ROOM → new ≡ old

-- what a call says of two texts that it makes, for which P holds, the second put where `before` stood
pub record IsBothWritten (P : List ℕ → List ℕ → Type 0) (status : ℕ) (old new before after : List ℕ) (report : Report) : Type 0 where
  -- OK: each stands at the start of its place
  pub made : status ≡ OK → (text undo : List ℕ) × P text undo × IsPut text old new × IsPut undo before after × TellsBoth (length text) (length undo) report
  -- NO_ROOM: there is less room for one than it takes
  pub no_room : status ≡ NO_ROOM → (text undo : List ℕ) × P text undo × ((length old < length text) ⊎ (length before < length undo)) × TellsBoth (length text) (length undo) report
  pub untouched : status ≢ OK → after ≡ before

-- what a call says where it makes nothing, for one of the reasons
pub record IsTold (R : Reasons) (status : ℕ) (old new : List ℕ) (report : Report) : Type 0 where
  -- REFUSED: an operation is refused, the first one, and its path stands at the start, if there is room
  pub refused : status ≡ REFUSED → (e : PatchError) × R.refused e × TellsRefusal e old new report
  -- NO_DOCUMENT: the document's text says none. NO_PATCH: the patch's text says none
  pub no_document : status ≡ NO_DOCUMENT → R.no_document report.kind × Tells 0 0 report.kind report
  pub no_patch : status ≡ NO_PATCH → R.no_patch report.operation report.kind × (report.size ≡ 0)
  -- NO_MEMORY: out of memory
  pub no_memory : status ≡ NO_MEMORY → Tells 0 0 0 report
  -- OVER: an operation is over the limits, the first one, or the first too many
  pub over : status ≡ OVER → ((e : LimitError) × R.over e × Tells 0 e.operation (limit_kind e.kind) report)
      ⊎ ((k : ℕ) × R.many k × Tells 0 k TOO_MANY report)
  pub untouched : status ≢ OK → status ≢ REFUSED → new ≡ old

-- what a call says of limits that aren't known: it does nothing else
pub record IsBadLimits (limits : Result CallLimits WrongSize) (status : ℕ) (old new : List ℕ) (report : Report) : Type 0 where
  pub told : (status ≡ BAD_LIMITS) ↔ IsErr limits
  pub untouched : status ≡ BAD_LIMITS → Tells 0 0 0 report × (new ≡ old)
