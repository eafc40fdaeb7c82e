-- The operations of a patch whose values are trees (RFC 6902, sections 3 and 4), and the text that says them.
use Rattle.std.specs.Prelude.{◌≡◌, ℕ, List, [], ◌∷◌, map, codes, Option, Some, ⊤}
use Rattle.json.specs.Find.{get}
use Rattle.json.specs.Json.{Json, string, array, Items, no_items, item}
use Rattle.jsonptr.specs.Text.{Pointer, text_of}
use Rattle.json_patch_operation.specs.Operation as document
use Rattle.json_patch_operation.specs.Operation.{Operation}
use Rattle.json_patch_operation.specs.PatchValue.{RefusesPatch}
use Rattle.json_patch_operation.specs.declared.read_error.ReadKind.{ReadKind}
use Rattle.json_reading.specs.Reading.{Reading}
use Rattle.json_reading.specs.Trees.{data_of}
use Rattle.json_lexemes.specs.Spelled.{Says}

pub data TreeOperation : Type 0 where
  add : Pointer → Json → TreeOperation
  remove : Pointer → TreeOperation
  replace : Pointer → Json → TreeOperation
  move : Pointer → Pointer → TreeOperation
  copy : Pointer → Pointer → TreeOperation
  test : Pointer → Json → TreeOperation

-- where it changes or compares
abbrev pub path_of : TreeOperation → Pointer
path_of (add P w) = P
path_of (remove P) = P
path_of (replace P w) = P
path_of (move F P) = P
path_of (copy F P) = P
path_of (test P w) = P

-- the operation with its value as it is read
abbrev pub under : Reading → TreeOperation → Operation
under r (add P w) = document.add P (data_of r w)
under r (remove P) = document.remove P
under r (replace P w) = document.replace P (data_of r w)
under r (move F P) = document.move F P
under r (copy F P) = document.copy F P
under r (test P w) = document.test P (data_of r w)

abbrev pub all_under : Reading → List TreeOperation → List Operation
all_under r ops = map (under r) ops

-- ---- the tree of a patch

-- a pointer in a patch, as its text
abbrev pub pointer_tree : Pointer → Json
pointer_tree P = string (text_of P)

-- the members of an operation, by their names
abbrev pub tree_fields : TreeOperation → List (List ℕ × Json)
tree_fields (add P w) = (codes "op", string (codes "add")) ∷ (codes "path", pointer_tree P) ∷ (codes "value", w) ∷ []
tree_fields (remove P) = (codes "op", string (codes "remove")) ∷ (codes "path", pointer_tree P) ∷ []
tree_fields (replace P w) = (codes "op", string (codes "replace")) ∷ (codes "path", pointer_tree P) ∷ (codes "value", w) ∷ []
tree_fields (move F P) = (codes "op", string (codes "move")) ∷ (codes "from", pointer_tree F) ∷ (codes "path", pointer_tree P) ∷ []
tree_fields (copy F P) = (codes "op", string (codes "copy")) ∷ (codes "from", pointer_tree F) ∷ (codes "path", pointer_tree P) ∷ []
tree_fields (test P w) = (codes "op", string (codes "test")) ∷ (codes "path", pointer_tree P) ∷ (codes "value", w) ∷ []

-- v has these members, and perhaps others
abbrev pub HasFields : Json → List (List ℕ × Json) → Type 0
HasFields v [] = ⊤
HasFields v (f ∷ fs) = (get f.0 v ≡ Some f.1) × HasFields v fs

abbrev pub ReadsTrees : Items → List TreeOperation → Type 0
ReadsTrees no_items [] = ⊤
ReadsTrees (item v js) (op ∷ ops) = HasFields v (tree_fields op) × ReadsTrees js ops
ReadsTrees js ops = ⊥

-- an array whose elements have the members of the operations, one by one
abbrev pub ReadsTreePatch : Json → List TreeOperation → Type 0
ReadsTreePatch (array js) ops = ReadsTrees js ops
ReadsTreePatch p ops = ⊥

-- ---- its text

-- the text is JSON, and its tree reads as the operations
abbrev pub SaysOperations : List ℕ → List TreeOperation → Type 0
SaysOperations text ops = (p : Json) × Says text p × ReadsTreePatch p ops

-- the text is JSON, and whatever its numbers are read as, it isn't read as a patch, for this kind: at this element of the array, or
-- since it is no array
abbrev pub SaysNoOperations : List ℕ → Option ℕ → ReadKind → Type 0
SaysNoOperations text k kind = (p : Json) × Says text p × ((r : Reading) → RefusesPatch (data_of r p) k kind)
