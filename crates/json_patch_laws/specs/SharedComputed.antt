-- The tokens that all pointers of a list begin with, computed.
use Rattle.std.specs.Prelude.{◌↔◌, List, [], ◌∷◌, ◌++◌, bytes_eq, Option, Some, None, if◌then◌else◌}
use Rattle.jsonptr.specs.Text.{Pointer, IsPrefix}
use Rattle.json_patch_operation.specs.Operation.{Operation, add, remove, replace, move, copy, test}
use Rattle.json_patch_document.specs.ChangeComputed.{front_of}

-- the longest list of tokens that begins both
abbrev pub common_prefix : Pointer → Pointer → Pointer
common_prefix [] Q = []
common_prefix (t ∷ P) [] = []
common_prefix (t ∷ P) (u ∷ Q) = if bytes_eq t u then t ∷ common_prefix P Q else []

-- the pointers of an operation
abbrev pub pointers : Operation → List Pointer
pointers (add P v) = P ∷ []
pointers (remove P) = P ∷ []
pointers (replace P v) = P ∷ []
pointers (move F P) = F ∷ P ∷ []
pointers (copy F P) = F ∷ P ∷ []
pointers (test P v) = P ∷ []

abbrev pub all_pointers : List Operation → List Pointer
all_pointers [] = []
all_pointers (op ∷ ops) = pointers op ++ all_pointers ops

-- the longest list of tokens that begins S and the parents of all these pointers
abbrev pub parents_of : Pointer → List Pointer → Option Pointer
parents_of S [] = Some S
parents_of S ([] ∷ Ps) = None
parents_of S ((t ∷ P) ∷ Ps) = parents_of (common_prefix S (front_of t P)) Ps

abbrev pub shared_of : List Pointer → Option Pointer
shared_of [] = None
shared_of ([] ∷ Ps) = None
shared_of ((t ∷ P) ∷ Ps) = parents_of (front_of t P) Ps

-- the longest list of tokens that begins the parent of every pointer of the list
abbrev pub shared_tokens : List Operation → Option Pointer
shared_tokens ops = shared_of (all_pointers ops)

-- S is the longest list of tokens that this holds of: it holds of those that begin S, and of no others
abbrev pub IsLongest : (Pointer → Type 0) → Pointer → Type 0
IsLongest Holds S = (T : Pointer) → Holds T ↔ IsPrefix T S
