-- Documents whose numbers stand for the numerals of a table, and what these say.
use Rattle.std.specs.Prelude.{◌≡◌, ℕ, List, [], ◌∷◌, ◌++◌, map, codes, slice_get, unwrap_or, ⊤}
use Rattle.serde_json.specs.Data as doc
use Rattle.serde_json.specs.Data.{Num, unsigned, negative, float, Data}
use Rattle.json.specs.Json.{Json, null, boolean, number, string, array, object, Items, no_items, item, Members, no_members, member}
use Rattle.json.specs.Print.{IsNumber}
use Rattle.json_patch_operation.specs.Operation as document
use Rattle.json_patch_operation.specs.Operation.{Operation}
use Rattle.json_patch_text.specs.Operations.{TreeOperation, add, remove, replace, move, copy, test}
use Rattle.json_reading.specs.Reading.{Reading}
use Rattle.json_reading.specs.Trees.{data_of, elements_of, members_of}
use Rattle.json_diff_text.specs.Renumbered.{renumbered, renumbered_items, renumbered_members}

-- the numeral at n, or 0 past the end
abbrev pub numeral_at : List (List ℕ) → ℕ → List ℕ
numeral_at ts n = unwrap_or (slice_get ts n) (codes "0")

-- the numeral for which a number of the document stands
abbrev pub numeral : List (List ℕ) → Num → List ℕ
numeral ts (unsigned n) = numeral_at ts n
numeral ts (negative z) = codes "0"
numeral ts (float x) = codes "0"

-- the document with the numerals in the place of the numbers
abbrev mutual
  pub tree_of : List (List ℕ) → Data → Json
  tree_of ts doc.null = null
  tree_of ts (doc.boolean b) = boolean b
  tree_of ts (doc.number n) = number (numeral ts n)
  tree_of ts (doc.string s) = string s
  tree_of ts (doc.array ds) = array (tree_items ts ds)
  tree_of ts (doc.object ms) = object (tree_members ts ms)

  pub tree_items : List (List ℕ) → doc.Items → Items
  tree_items ts doc.no_items = no_items
  tree_items ts (doc.item d ds) = item (tree_of ts d) (tree_items ts ds)

  pub tree_members : List (List ℕ) → doc.Members → Members
  tree_members ts doc.no_members = no_members
  tree_members ts (doc.member k d ms) = member k (tree_of ts d) (tree_members ts ms)

abbrev pub tree_op : List (List ℕ) → Operation → TreeOperation
tree_op ts (document.add P v) = add P (tree_of ts v)
tree_op ts (document.remove P) = remove P
tree_op ts (document.replace P v) = replace P (tree_of ts v)
tree_op ts (document.move F P) = move F P
tree_op ts (document.copy F P) = copy F P
tree_op ts (document.test P v) = test P (tree_of ts v)

abbrev pub tree_ops : List (List ℕ) → List Operation → List TreeOperation
tree_ops ts ops = map (tree_op ts) ops

-- as which number a reading reads what a number of the document stands for
abbrev pub read_as : Reading → List (List ℕ) → Num → Num
read_as r ts n = r.of (numeral ts n)

-- d stands for the tree: under each reading it is the tree's document, once its numbers are read as their numerals; also
-- when the table has grown
abbrev pub StandsFor : List (List ℕ) → Data → Json → Type 0
StandsFor ts d j = (r : Reading) (us : List (List ℕ)) → renumbered (read_as r (ts ++ us)) d ≡ data_of r j

-- the table has grown
abbrev pub Grows : List (List ℕ) → List (List ℕ) → Type 0
Grows old new = (us : List (List ℕ)) × (new ≡ old ++ us)

-- each numeral is a JSON number
abbrev pub AreNumbers : List (List ℕ) → Type 0
AreNumbers [] = ⊤
AreNumbers (t ∷ ts) = IsNumber t × AreNumbers ts

-- the same of the elements of an array, and of the members of an object
abbrev pub StandFor : List (List ℕ) → doc.Items → Items → Type 0
StandFor ts ds js = (r : Reading) (us : List (List ℕ)) → renumbered_items (read_as r (ts ++ us)) ds ≡ elements_of r js

abbrev pub StandForMembers : List (List ℕ) → doc.Members → Members → Type 0
StandForMembers ts ds ms = (r : Reading) (us : List (List ℕ)) → renumbered_members (read_as r (ts ++ us)) ds ≡ members_of r ms doc.no_members
