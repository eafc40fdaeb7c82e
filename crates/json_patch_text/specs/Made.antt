-- What an operation makes of a text, in trees and byte by byte (RFC 6902, section 4).
use Rattle.std.specs.Prelude.{◌≡◌, ◌<◌, ◌≤◌, ◌-◌, IfSome, ℕ, Option, List, [], ◌∷◌, length, take, Result, Ok, Err, ⊤}
use Rattle.json.specs.Json.{Json, max_depth}
use Rattle.jsonptr.specs.Text.{Pointer}
use Rattle.json_patch_operation.specs.declared.error.PatchErrorKind.TheVariants.{InvalidPointer}
use Rattle.json_patch_text.specs.Operations.{TreeOperation}
use Rattle.json_patch_text.specs.Step.{ComesTo}
use Rattle.json_patch_text.specs.declared.fault.StepFault.{StepFault}
use Rattle.json_patch_text.specs.declared.fault.StepFault.TheVariants as step
use Rattle.json_patch_text.specs.declared.operation.TextOperation.{TextOperation}
use Rattle.json_patch_text.specs.declared.operation.TextOperation.TheVariants.{Add, Remove, Replace, Move, Copy, Test}
use Rattle.json_text.specs.Added.{IsAdded}
use Rattle.json_lexemes.specs.Skipped.{nesting}
use Rattle.json_text.specs.Pointed.{IsWrittenAt}
use Rattle.json_text.specs.Removed.{IsRemoved}
use Rattle.json_text.specs.Replaced.{IsReplaced}
use Rattle.json_lexemes.specs.Spelled.{Says}
use Rattle.json_text.specs.declared.fault.TextFault.{TextFault}
use Rattle.json_text.specs.declared.fault.TextFault.TheVariants.{NotJson, TooDeep, Memory}

-- ---- the bytes

-- the bytes of the value at F, as they stand there, are added at P
abbrev pub IsCopied : List ℕ → Pointer → Pointer → List ℕ → Type 0
IsCopied text F P new = (i : Json) × (s : List ℕ) × Says text i × IsWrittenAt text i F s × IsAdded text P s new

-- and what stood at F is removed before
abbrev pub IsMoved : List ℕ → Pointer → Pointer → List ℕ → Type 0
IsMoved text F P new = (i : Json) × (s : List ℕ) × (less : List ℕ) × Says text i × IsWrittenAt text i F s × IsRemoved text F less × IsAdded less P s new

-- new is the text after this operation, with every other byte kept
abbrev pub IsMadeIn : List ℕ → TextOperation → List ℕ → Type 0
IsMadeIn text (Add P s) new = IsAdded text P s.now new
IsMadeIn text (Remove P) new = IsRemoved text P new
IsMadeIn text (Replace P s) new = IsReplaced text P s.now new
IsMadeIn text (Move F P) new = IsMoved text F P new
IsMadeIn text (Copy F P) new = IsCopied text F P new
IsMadeIn text (Test P s) new = new ≡ text

-- the same of a list of operations, one after another
abbrev pub AreMadeIn : List ℕ → List TextOperation → List ℕ → Type 0
AreMadeIn text [] new = new ≡ text
AreMadeIn text (o ∷ os) new = (next : List ℕ) × IsMadeIn text o next × AreMadeIn next os new

-- ---- what it takes of a limit on bytes

-- s is what stands in the text where P leads, as it is written
abbrev pub Stands : List ℕ → Pointer → List ℕ → Type 0
Stands text P s = (i : Json) × Says text i × IsWrittenAt text i P s

-- what stands there has n bytes
abbrev pub HasBytesAt : List ℕ → Pointer → ℕ → Type 0
HasBytesAt text P n = (s : List ℕ) × Stands text P s × (n ≡ length s)

-- n is how many more bytes stand there than v has
abbrev pub HasMoreAt : List ℕ → Pointer → List ℕ → ℕ → Type 0
HasMoreAt text P v n = (m : ℕ) × HasBytesAt text P m × (n ≡ m - length v)

-- the operation costs n bytes: a `copy` those that it copies, of what stands at its `from`; a `test` those that it reads of what stands at its
-- path, less as many as its value has; any other none
abbrev pub Costs : List ℕ → TextOperation → ℕ → Type 0
Costs text (Copy F P) n = HasBytesAt text F n
Costs text (Test P v) n = HasMoreAt text P v.now n
Costs text o n = n ≡ 0

-- ---- too deep

-- the operations before the one at k leave a text in which more than 128 objects and arrays are open at once
abbrev pub IsTooDeepAt : List ℕ → List TextOperation → ℕ → Type 0
IsTooDeepAt text os k = (left : List ℕ) × AreMadeIn text (take k os) left × (max_depth < nesting left)

-- ---- for private clauses: a step

-- new says what the operation comes to from i
abbrev pub IsLeft : List ℕ → Json → TreeOperation → Type 0
IsLeft new i op = (j : Json) × Says new j × ComesTo i op (Ok j)

-- why the text isn't read, but for want of memory
abbrev pub IsNoText : List ℕ → TextFault → Type 0
IsNoText text NotJson = (j : Json) → ¬ Says text j
IsNoText text TooDeep = max_depth < nesting text
IsNoText text (Memory m) = ⊥

-- why it isn't made of i
abbrev pub IsStopped : Json → TreeOperation → StepFault → Type 0
IsStopped i op (step.Refused kind) = ComesTo i op (Err kind)
IsStopped i op (step.Memory m) = ⊤

-- new is what it leaves where it is made
abbrev pub IsStepped : Json → TreeOperation → List ℕ → Result (Option ℕ) StepFault → Type 0
IsStepped i op new (Ok most) = IsLeft new i op
IsStepped i op new (Err f) = IsStopped i op f

-- of a text that nests no deeper than these levels, the new one nests no deeper than most, if that is known
abbrev pub IsNested : ℕ → List ℕ → List ℕ → Option ℕ → Type 0
IsNested levels text new most = IfSome most (λ n. nesting text ≤ levels → nesting new ≤ n)

-- a change isn't made, since the pointer leads nowhere in this sense
abbrev pub IsNotMade : Type 0 → StepFault → Type 0
IsNotMade nowhere (step.Refused kind) = (kind ≡ InvalidPointer) × nowhere
IsNotMade nowhere (step.Memory m) = ⊤
