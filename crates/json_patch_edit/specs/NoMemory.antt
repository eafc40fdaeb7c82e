-- Lists of operations that take no memory where they are accepted.
use Rattle.std.specs.Prelude.{◌≡◌, ℕ, List, [], ◌∷◌, Result, Ok, Err}
use Rattle.jsonptr.specs.Text.{Pointer, encoded}
use Rattle.json_patch_operation.specs.Operation.{Operation, add, remove, replace, move, copy, test}
use Rattle.json_patch_edit.specs.declared.error.StepFault.{StepFault}
use Rattle.json_patch_edit.specs.declared.error.StepFault.TheVariants.{Refused, Memory}

-- the token stands in a pointer's text as it is: there it has no ~
abbrev pub IsUnescaped : List ℕ → Type 0
IsUnescaped t = encoded t ≡ t

-- the pointer's text holds no ~
abbrev pub AreUnescaped : Pointer → Type 0
AreUnescaped [] = Unit {0}
AreUnescaped (t ∷ P) = IsUnescaped t × AreUnescaped P

-- a `test`, or a `remove` at a pointer whose text holds no ~
abbrev pub TakesNoMemory : Operation → Type 0
TakesNoMemory (add P v) = ⊥
TakesNoMemory (remove P) = AreUnescaped P
TakesNoMemory (replace P v) = ⊥
TakesNoMemory (move F P) = ⊥
TakesNoMemory (copy F P) = ⊥
TakesNoMemory (test P v) = Unit {0}

abbrev pub TakeNoMemory : List Operation → Type 0
TakeNoMemory [] = Unit {0}
TakeNoMemory (op ∷ ops) = TakesNoMemory op × TakeNoMemory ops

-- `test`s, and then at most one `remove` at such a pointer
abbrev pub AreTestsThenRemove : List Operation → Type 0
AreTestsThenRemove [] = Unit {0}
AreTestsThenRemove (test P v ∷ ops) = AreTestsThenRemove ops
AreTestsThenRemove (remove P ∷ []) = AreUnescaped P
AreTestsThenRemove (remove P ∷ op ∷ ops) = ⊥
AreTestsThenRemove (op ∷ ops) = ⊥

-- ---- for private clauses

-- memory wasn't short
abbrev pub NeverShort : {T : Type 0} → Result T StepFault → Type 0
NeverShort (Ok x) = Unit {0}
NeverShort (Err (Refused kind)) = Unit {0}
NeverShort (Err (Memory e)) = ⊥
