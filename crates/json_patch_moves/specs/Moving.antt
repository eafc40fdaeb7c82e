-- Patches that add, remove, replace and move (RFC 6902, sections 4.1 to 4.4).
use Rattle.std.specs.Prelude.{List, [], ◌∷◌}
use Rattle.json_patch.specs.Operation.{Operation, add, remove, replace, move, copy, test}

-- an `add`, `remove`, `replace` or `move`
abbrev pub IsMoving : Operation → Type 0
IsMoving (add P v) = Unit {0}
IsMoving (remove P) = Unit {0}
IsMoving (replace P v) = Unit {0}
IsMoving (move F P) = Unit {0}
IsMoving (copy F P) = ⊥
IsMoving (test P v) = ⊥

-- each operation is one of these, and none is a `copy` or a `test`
abbrev pub AreMoving : List Operation → Type 0
AreMoving [] = Unit {0}
AreMoving (op ∷ ops) = IsMoving op × AreMoving ops
