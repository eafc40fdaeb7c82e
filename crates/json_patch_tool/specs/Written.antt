-- What a run writes, and how it ends.
use Rattle.std.specs.Prelude.{◌≡◌, ◌⊎◌, ℕ, List, Option, Ok, Err, IfSome, take}
use Rattle.std.specs.Io.KnownBytes.{Appends, Keeps}
use Rattle.json_patch_answers.specs.Answer.{Answer}
use Rattle.json_patch_answers.specs.Statuses.{status_of}
use Rattle.json_patch_answers.specs.declared.mode.Mode.{Mode}
use Rattle.json_patch_answers.specs.declared.fault.ToolFault.{ToolFault}
use Rattle.json_patch_answers.specs.declared.fault.ToolFault.TheVariants.{Memory, ReadFailed, WriteFailed}

-- the line that answers the input was written, and nothing else
abbrev pub WritesAnswer : Mode → List ℕ → Option (List ℕ) → Option (List ℕ) → Type 0
WritesAnswer mode input old new = (line : List ℕ) × Answer mode input (Ok line) × Appends old new line

-- the first bytes of that line were written, and nothing else
abbrev pub BeginsAnswer : Mode → List ℕ → Option (List ℕ) → Option (List ℕ) → Type 0
BeginsAnswer mode input old new = (line : List ℕ) × Answer mode input (Ok line)
    × ((n : ℕ) × Appends old new (take n line))

-- a run in this mode may end in the fault: where it wants memory or the reader failed, nothing was written; where the
-- writer failed, first bytes of the line that answers the input; any other fault is the answer, and nothing was written
abbrev pub EndsInFault : Mode → Option (List ℕ) → Option (List ℕ) → Option (List ℕ) → ToolFault → Type 0
EndsInFault mode input old new Memory = Keeps old new
EndsInFault mode input old new ReadFailed = Keeps old new
EndsInFault mode input old new WriteFailed = IfSome input (λ bytes. BeginsAnswer mode bytes old new)
EndsInFault mode input old new fault = Keeps old new × IfSome input (λ bytes. Answer mode bytes (Err fault))

-- a run in this mode ends with the status 0, and then the line that answers the input was written; or with that of a
-- fault in which it may end
abbrev pub EndsWith : Mode → Option (List ℕ) → Option (List ℕ) → Option (List ℕ) → ℕ → Type 0
EndsWith mode input old new status = ((status ≡ 0) × IfSome input (λ bytes. WritesAnswer mode bytes old new))
    ⊎ ((fault : ToolFault) × (status ≡ status_of fault) × EndsInFault mode input old new fault)
