-- A list of operations on what a text says (RFC 6902, section 5), whatever its numbers that aren't whole are read as.
use Rattle.std.specs.Prelude.{ℕ, List, take}
use Rattle.json.specs.Json.{Json}
use Rattle.json_patch_laws.specs.Run.{Accepts, RefusesAt}
use Rattle.json_patch_operation.specs.declared.error.PatchErrorKind.{PatchErrorKind}
use Rattle.json_patch_text.specs.Operations.{TreeOperation, all_under}
use Rattle.json_reading.specs.Reading.{Reading}
use Rattle.json_reading.specs.Trees.{data_of}
use Rattle.json_lexemes.specs.Spelled.{Says}

-- under each reading the operations are accepted on the document of i, and lead to the document of j
abbrev pub AcceptsTree : Json → List TreeOperation → Json → Type 0
AcceptsTree i ops j = (r : Reading) → Accepts (data_of r i) (all_under r ops) (data_of r j)

-- the operations before the one at k are accepted under each reading, and it is refused under some, for this kind
abbrev pub RefusesTreeAt : Json → List TreeOperation → ℕ → PatchErrorKind → Type 0
RefusesTreeAt i ops k kind = ((m : Json) × AcceptsTree i (take k ops) m) × ((r : Reading) × RefusesAt (data_of r i) (all_under r ops) k kind)

-- from what the text says the operations lead to what the new one says
abbrev pub AcceptsText : List ℕ → List TreeOperation → List ℕ → Type 0
AcceptsText text ops new = (i : Json) × (j : Json) × Says text i × Says new j × AcceptsTree i ops j

-- what the text says is refused so
abbrev pub RefusesTextAt : List ℕ → List TreeOperation → ℕ → PatchErrorKind → Type 0
RefusesTextAt text ops k kind = (i : Json) × Says text i × RefusesTreeAt i ops k kind
