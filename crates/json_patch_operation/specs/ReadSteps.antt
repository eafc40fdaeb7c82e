-- What the parts of the reader answer: for private clauses.
use Rattle.std.specs.Prelude.{◌≡◌, ℕ, List, Some, codes}
use Rattle.serde_json.specs.Data.{Data, string}
use Rattle.serde_json.specs.Find.{get}
use Rattle.jsonptr.specs.Text.{Pointer, text_of}
use Rattle.json_patch_operation.specs.PatchValue.{IsOneOf}

-- the member k of v is the string of this pointer
abbrev pub IsPointerAt : Data → List ℕ → Pointer → Type 0
IsPointerAt v k P = get k v ≡ Some (string (text_of P))

-- if there is to be a member `from`, it is a pointer's string
abbrev pub HasAnyFrom : List (List ℕ) → Data → Type 0
HasAnyFrom names v = IsOneOf names (codes "from") → (P : Pointer) × IsPointerAt v (codes "from") P
