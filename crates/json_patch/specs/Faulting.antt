-- For private clauses: the fault of a run, from that of a step.
use Rattle.std.specs.Prelude.{◌≡◌, ℕ}
use Rattle.jsonptr.specs.Text.{Pointer}
use Rattle.json_patch_operation.specs.declared.error.PatchFault.{PatchFault}
use Rattle.json_patch_operation.specs.declared.error.PatchFault.TheVariants.{Refused, Memory}
use Rattle.json_patch_edit.specs.declared.error.StepFault.{StepFault}
use Rattle.json_patch_edit.specs.declared.error.StepFault.TheVariants.{Refused as step_refused}

-- a refusal has the step's number, path and kind; want of memory may take its place
abbrev pub Reports : StepFault → ℕ → Pointer → PatchFault → Type 0
Reports fault n P (Refused e) = (fault ≡ step_refused e.kind) × (e.operation ≡ n) × (e.path ≡ P)
Reports fault n P (Memory error) = Unit {0}
