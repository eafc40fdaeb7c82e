-- For private clauses: what is told of a text that was made, and of a failure.
use Rattle.std.specs.Prelude.{◌≡◌, ◌≢◌, ◌≤◌, ◌<◌, ◌⊎◌, ℕ, List, length}
use Rattle.json_patch.specs.LimitError.{LimitError}
use Rattle.json_patch.specs.PatchError.{PatchError}
use Rattle.json_patch_bytes.specs.Kinds.{limit_kind}
use Rattle.json_patch_bytes.specs.declared.failure.Failure.{Failure}
use Rattle.json_patch_bytes.specs.declared.kinds.TheConstants.{TOO_MANY}
use Rattle.json_patch_bytes.specs.declared.failure.Failure.TheVariants.{NoDocument, NoPatch, Refused, Over, TooMany}
use Rattle.json_patch_c.specs.Reports.{IsPut, Tells, TellsRefusal}
use Rattle.json_patch_c.specs.declared.report.Report.{Report}
use Rattle.json_patch_c.specs.declared.status.TheConstants.{NO_DOCUMENT, NO_MEMORY, NO_PATCH, NO_ROOM, OK, OVER, REFUSED}

-- what is told of a text that was made
pub record IsPutOut (text : List ℕ) (status : ℕ) (old new : List ℕ) (report : Report) : Type 0 where
  pub made : status ≡ OK → IsPut text old new
  pub no_room : status ≡ NO_ROOM → length old < length text
  pub told : Tells (length text) 0 0 report
  pub ends : (status ≡ OK) ⊎ (status ≡ NO_ROOM)
  pub untouched : status ≢ OK → new ≡ old

-- what is told of a failure
pub record IsReported (failure : Failure) (status : ℕ) (old new : List ℕ) (report : Report) : Type 0 where
  pub refused : status ≡ REFUSED → (e : PatchError) × (failure ≡ Refused e) × TellsRefusal e old new report
  pub no_document : status ≡ NO_DOCUMENT → (failure ≡ NoDocument report.kind) × Tells 0 0 report.kind report
  pub no_patch : status ≡ NO_PATCH → (failure ≡ NoPatch report.operation report.kind) × (report.size ≡ 0)
  pub no_memory : status ≡ NO_MEMORY → Tells 0 0 0 report
  pub over : status ≡ OVER → ((e : LimitError) × (failure ≡ Over e) × Tells 0 e.operation (limit_kind e.kind) report)
      ⊎ ((k : ℕ) × (failure ≡ TooMany k) × Tells 0 k TOO_MANY report)
  pub ends : (status ≢ OK) × ((status ≤ NO_MEMORY) ⊎ (status ≡ OVER))
  pub untouched : status ≢ REFUSED → new ≡ old
