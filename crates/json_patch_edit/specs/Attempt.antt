-- For private clauses: what an attempt at a change leaves.
use Rattle.std.specs.Prelude.{◌≡◌, Option, Some, None, Result, Ok, Err}
use Rattle.serde_json.specs.Data.{Data}
use Rattle.json_patch_operation.specs.declared.error.PatchErrorKind.{PatchErrorKind}
use Rattle.json_patch_operation.specs.declared.error.PatchErrorKind.TheVariants.{InvalidPointer}
use Rattle.json_patch_edit.specs.declared.error.StepFault.{StepFault}
use Rattle.json_patch_edit.specs.declared.error.StepFault.TheVariants.{Refused, Memory}

-- the refusal is for the pointer, and `wanted` is none; where memory is short, nothing is said
abbrev pub Excuses : StepFault → Option Data → Type 0
Excuses (Refused kind) wanted = (kind ≡ InvalidPointer) × (wanted ≡ None)
Excuses (Memory e) wanted = Unit {0}

-- `new` is the document that is wanted; or the attempt failed, and it is `old`
abbrev pub Attempts : {T : Type 0} → Result T StepFault → Option Data → Data → Data → Type 0
Attempts (Ok x) wanted old new = wanted ≡ Some new
Attempts (Err fault) wanted old new = Excuses fault wanted × (new ≡ old)

-- the refusal is the one that an operation comes to; where memory is short, nothing is said
abbrev pub FailsAs : StepFault → Result Data PatchErrorKind → Type 0
FailsAs (Refused kind) wanted = wanted ≡ Err kind
FailsAs (Memory e) wanted = Unit {0}

-- what an operation comes to, where memory suffices
abbrev pub ComesTo : {T : Type 0} → Result T StepFault → Result Data PatchErrorKind → Data → Type 0
ComesTo (Ok x) wanted new = wanted ≡ Ok new
ComesTo (Err fault) wanted new = FailsAs fault wanted
