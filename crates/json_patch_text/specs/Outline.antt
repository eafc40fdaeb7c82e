-- For private clauses: what of an operation decides how it is read.
use Rattle.std.specs.Borrow.{Bor}
use Rattle.std.specs.Prelude.{◌≡◌, ◌≤◌, ◌+◌, ◌++◌, ◌↔◌, List, [], ◌∷◌, ℕ, codes, length, Option, Some, None, IfSome, MatchOption, option_map}
use Rattle.json.specs.Find as tree
use Rattle.json.specs.Json as json
use Rattle.serde_json.specs.Data.{Data, Members, null, put, string}
use Rattle.serde_json.specs.Find.{get}
use Rattle.json_patch_operation.specs.PatchValue.{IsObject, RefusesItem}
use Rattle.json_patch_operation.specs.declared.read_error.ReadFault.{ReadFault}
use Rattle.json_patch_operation.specs.declared.read_error.ReadFault.TheVariants.{Refused, Memory}
use Rattle.json_patch_operation.specs.declared.read_error.ReadKind.{ReadKind}
use Rattle.json.specs.Tree.{items_depth, members_depth}
use Rattle.json_text.specs.Listing.{Texts, AreStretchesOfElements, AreStretchesOfMembers, AreTextsOfElements, AreTextsOfMembers}
use Rattle.json_text.specs.Pointed.{IsWrittenAt}
use Rattle.json_patch_text.specs.TextOperations.{AreWrittenAs, HasValueAt, HaveValuesIn, IsValueText, IsWrittenAs}
use Rattle.json_patch_text.specs.Operations.{TreeOperation, HasFields, ReadsTrees, tree_fields}
use Rattle.json_patch_text.specs.declared.operation.TextOperation.{TextOperation}
use Rattle.json_reading.specs.Reading.{Reading}
use Rattle.json_reading.specs.Trees.{elements_of}
use Rattle.json_patch_text.specs.declared.reading.Fields.{Fields}

-- a string as itself, any other tree as null
abbrev pub outline : json.Json → Data
outline json.null = null
outline (json.boolean b) = null
outline (json.number s) = null
outline (json.string s) = string s
outline (json.array js) = null
outline (json.object ms) = null

abbrev pub IsObjectTree : json.Json → Type 0
IsObjectTree j = (ms : json.Members) × (j ≡ json.object ms)

-- the members by which it is read
pub data Asked : Type 0 where
  its_op : Asked
  its_from : Asked
  its_path : Asked
  its_value : Asked

abbrev pub name_asked : Asked → List ℕ
name_asked its_op = codes "op"
name_asked its_from = codes "from"
name_asked its_path = codes "path"
name_asked its_value = codes "value"

-- d is an object where the tree is, and has what the outlines of these members are
pub record IsOutline (d : Data) (j : json.Json) : Type 0 where
  pub object : IsObject d ↔ IsObjectTree j
  pub members : (a : Asked) → get (name_asked a) d ≡ option_map outline (tree.get (name_asked a) j)

-- ---- their texts

-- the bytes of a text, if there is one
abbrev pub bytes_in : Option (Bor (List ℕ)) → Option (List ℕ)
bytes_in s = option_map (λ t. t.now) s

-- s is what the text, which says j, has as its member k, as it is written there, if it has one
abbrev pub HasField : List ℕ → json.Json → List ℕ → Option (List ℕ) → Type 0
HasField text j k s = MatchOption s (tree.get k j ≡ None) (λ t. (w : json.Json) × (tree.get k j ≡ Some w) × IsValueText t w × IsWrittenAt text j (k ∷ []) t)

abbrev pub field_of : Fields → Asked → Option (List ℕ)
field_of f its_op = bytes_in f.op
field_of f its_from = bytes_in f.from
field_of f its_path = bytes_in f.path
field_of f its_value = bytes_in f.value

abbrev pub AreFields : List ℕ → json.Json → Fields → Type 0
AreFields text j f = (a : Asked) → HasField text j (name_asked a) (field_of f a)

-- the text of an operation, which says j, reads as o
abbrev pub IsReadAs : List ℕ → json.Json → TextOperation → Type 0
IsReadAs text j o = (op : TreeOperation) × HasFields j (tree_fields op) × IsWrittenAs o op × HasValueAt text j (codes "value" ∷ []) o

-- the member is put in, if there is one
abbrev pub put_if : List ℕ → Option Data → Members → Members
put_if k None ms = ms
put_if k (Some d) ms = put k d ms

-- the tree's value is written so, if it has one
abbrev pub IsWritten : Option json.Json → Option (List ℕ) → Type 0
IsWritten o s = MatchOption s (o ≡ None) (λ t. (w : json.Json) × (o ≡ Some w) × IsValueText t w)

-- of the members all of the text's object the rest is still ahead, and s is the text of the last k that is seen
pub record IsLast (text : List ℕ) (j : json.Json) (all rest : json.Members) (k : List ℕ) (s : Option (List ℕ)) : Type 0 where
  pub last : Option json.Json
  pub found : tree.get_member k all ≡ tree.later_or (tree.get_member k rest) last
  pub written : IsWritten last s
  pub stands : IfSome s (λ t. tree.get_member k rest ≡ None → IsWrittenAt text j (k ∷ []) t)

-- those with the texts es are still ahead
pub record IsAhead (text : List ℕ) (j : json.Json) (es : List Texts) (f : Fields) : Type 0 where
  pub all : json.Members
  pub rest : json.Members
  pub is : j ≡ json.object all
  pub texts : AreTextsOfMembers es rest
  pub shallow : members_depth rest ≤ json.max_depth
  pub stretches : AreStretchesOfMembers text j es rest
  pub seen : (a : Asked) → IsLast text j all rest (name_asked a) (field_of f a)

-- ---- a patch

-- of the elements of the text's array, n of which are read as the operations os, those with the texts es are still ahead
pub record IsRead (text : List ℕ) (js : json.Items) (es : List Texts) (os : List TextOperation) (n : ℕ) : Type 0 where
  pub rest : json.Items
  pub texts : AreTextsOfElements es rest
  pub shallow : items_depth rest ≤ json.max_depth
  pub done : List TreeOperation
  pub written : AreWrittenAs os done
  pub reads : (more : List TreeOperation) → ReadsTrees rest more → ReadsTrees js (done ++ more)
  pub refuses : (r : Reading) (k : ℕ) (kind : ReadKind) → RefusesItem (elements_of r rest) k kind → RefusesItem (elements_of r js) (n + k) kind
  pub count : length os ≡ n
  pub stretches : AreStretchesOfElements text (json.array js) n es
  pub values : HaveValuesIn text (json.array js) os

abbrev pub IsReadPatch : List ℕ → json.Json → List Texts → List TextOperation → ℕ → Type 0
IsReadPatch text p es os n = (js : json.Items) × (p ≡ json.array js) × IsRead text js es os n

-- a fault with the number of its element
abbrev pub at_number : ℕ → ReadFault → ReadFault
at_number n (Refused e) = Refused (record { operation = Some n; kind = e.kind })
at_number n (Memory e) = Memory e
