-- A patch as a JSON value (RFC 6902, sections 3 and 4): the members of an operation, when a value
-- reads as a patch, why it doesn't, and what is written for one.
use Rattle.std.specs.Prelude.{◌≡◌, ◌<◌, ℕ, zero, suc, List, [], ◌∷◌, ◌++◌, map, Option, Some, None, option_map, Result}
use Rattle.std.specs.Prelude.{IfErr, IsTrue, codes}
use Rattle.std.specs.List.{list_any}
use Rattle.std.specs.Str.{bytes_eq}
use Rattle.serde_json.specs.Data.{Data, string, array, object, Items, no_items, item, Members, no_members, put}
use Rattle.serde_json.specs.Find.{get}
use Rattle.serde_json.specs.View.{items_of}
use Rattle.jsonptr.specs.Text.{Pointer, text_of}
use Rattle.jsonptr.specs.Faults.{IsFault}
use Rattle.jsonptr.specs.declared.ParseError.{ParseError}
use Rattle.json_patch_document.specs.Document.{IsDocument}
use Rattle.json_patch_operation.specs.Operation.{Operation, Parts, parts_of, IsWholeOp}
use Rattle.json_patch_operation.specs.declared.read_error.ReadKind.{ReadKind}
use Rattle.json_patch_operation.specs.declared.read_error.ReadKind.TheVariants.{NotAList, NotAnObject, MissingOp, OpNotText, UnknownOp}
use Rattle.json_patch_operation.specs.declared.read_error.ReadKind.TheVariants.{MissingFrom, FromNotText, BadFrom, MissingPath}
use Rattle.json_patch_operation.specs.declared.read_error.ReadKind.TheVariants.{PathNotText, BadPath, MissingValue, ValueNotWhole}
use Rattle.json_patch_operation.specs.declared.read_error.ReadError.{ReadError}
use Rattle.json_patch_operation.specs.declared.read_error.ReadFault.{ReadFault}
use Rattle.json_patch_operation.specs.declared.read_error.ReadFault.TheVariants.{Refused, Memory}

-- ---- the members of an operation (RFC 6902, section 4)

-- the string of its member `op`
abbrev pub name_of : Operation → List ℕ
name_of op = (parts_of op).name

-- the member of this name, if there is one
abbrev pub field_if : List ℕ → Option Data → List (List ℕ × Data)
field_if name None = []
field_if name (Some d) = (name, d) ∷ []

-- the string of a pointer, as a value (RFC 6901, section 3)
abbrev pub pointer_text : Pointer → Data
pointer_text P = string (text_of P)

-- the members of parts, the name left out
abbrev pub part_fields : Parts → List (List ℕ × Data)
part_fields p = field_if (codes "from") (option_map pointer_text p.from) ++ (codes "path", pointer_text p.path) ∷ field_if (codes "value") p.value

-- the members of an operation besides `op`, by their names
abbrev pub fields : Operation → List (List ℕ × Data)
fields op = part_fields (parts_of op)

-- the names of these members, whatever they hold
abbrev pub field_names : Operation → List (List ℕ)
field_names op = map (λ f. f.0) (fields op)

-- all its members
abbrev pub all_fields : Operation → List (List ℕ × Data)
all_fields op = (codes "op", string (name_of op)) ∷ fields op

-- ---- what reads as an operation (RFC 6902, section 4), and as a patch (section 3)

-- v has these members, and perhaps others: so where there is one, v is an object
abbrev pub HasMembers : Data → List (List ℕ × Data) → Type 0
HasMembers v [] = Unit {0}
HasMembers v (f ∷ fs) = (get f.0 v ≡ Some f.1) × HasMembers v fs

-- v reads as the operation, with no look at `op`: members that the operation doesn't have are ignored
abbrev pub ReadsFields : Data → Operation → Type 0
ReadsFields v op = HasMembers v (fields op) × IsWholeOp op

-- v reads as the operation
abbrev pub ReadsOperation : Data → Operation → Type 0
ReadsOperation v op = HasMembers v (all_fields op) × IsWholeOp op

-- the elements read as the operations, one by one
abbrev pub ReadsItems : Items → List Operation → Type 0
ReadsItems no_items [] = Unit {0}
ReadsItems (item d ds) (op ∷ ops) = ReadsOperation d op × ReadsItems ds ops
ReadsItems ds ops = ⊥

-- v is an array that reads as the operations
abbrev pub ReadsPatch : Data → List Operation → Type 0
ReadsPatch (array ds) ops = ReadsItems ds ops
ReadsPatch v ops = ⊥

-- ---- why a value isn't read

-- v is an object
abbrev pub IsObject : Data → Type 0
IsObject v = (ms : Members) × (v ≡ object ms)

-- v is an object with no member k
abbrev pub Lacks : Data → List ℕ → Type 0
Lacks v k = IsObject v × (get k v ≡ None)

-- the member k of v isn't a string
abbrev pub HasNoText : Data → List ℕ → Type 0
HasNoText v k = (d : Data) × (get k v ≡ Some d) × ((t : List ℕ) → d ≡ string t → ⊥)

-- the member k of v is a string, and no pointer's, for this fault
abbrev pub HasNoPointer : Data → List ℕ → ParseError → Type 0
HasNoPointer v k e = (t : List ℕ) × (get k v ≡ Some (string t)) × IsFault t e

-- the member k of v isn't a document: for what a program holds, some number in it isn't whole
abbrev pub HasNoDocument : Data → List ℕ → Type 0
HasNoDocument v k = (d : Data) × (get k v ≡ Some d) × (IsDocument d → ⊥)

-- k is one of the names
abbrev pub IsOneOf : List (List ℕ) → List ℕ → Type 0
IsOneOf names k = IsTrue (list_any (bytes_eq k) names)

-- which members an operation has besides `op`, where there are two
abbrev pub path_and_value : List (List ℕ)
path_and_value = codes "path" ∷ codes "value" ∷ []

abbrev pub from_and_path : List (List ℕ)
from_and_path = codes "from" ∷ codes "path" ∷ []

-- what is at fault with v, where an operation is to be read that has members of these names
abbrev pub IsFieldFault : List (List ℕ) → Data → ReadKind → Type 0
IsFieldFault names v NotAnObject = IsObject v → ⊥
IsFieldFault names v MissingFrom = IsOneOf names (codes "from") × Lacks v (codes "from")
IsFieldFault names v FromNotText = IsOneOf names (codes "from") × HasNoText v (codes "from")
IsFieldFault names v (BadFrom e) = IsOneOf names (codes "from") × HasNoPointer v (codes "from") e
IsFieldFault names v MissingPath = Lacks v (codes "path")
IsFieldFault names v PathNotText = HasNoText v (codes "path")
IsFieldFault names v (BadPath e) = HasNoPointer v (codes "path") e
IsFieldFault names v MissingValue = IsOneOf names (codes "value") × Lacks v (codes "value")
IsFieldFault names v ValueNotWhole = IsOneOf names (codes "value") × HasNoDocument v (codes "value")
IsFieldFault names v kind = ⊥

-- no operation has this name
abbrev pub IsUnknown : List ℕ → Type 0
IsUnknown n = (op : Operation) → name_of op ≡ n → ⊥

-- what is at fault with v, where any operation is to be read: which members it is to have goes by its `op`
abbrev pub IsOperationFault : Data → ReadKind → Type 0
IsOperationFault v NotAnObject = IsObject v → ⊥
IsOperationFault v MissingOp = Lacks v (codes "op")
IsOperationFault v OpNotText = HasNoText v (codes "op")
IsOperationFault v UnknownOp = (n : List ℕ) × (get (codes "op") v ≡ Some (string n)) × IsUnknown n
IsOperationFault v kind = (op : Operation) × (get (codes "op") v ≡ Some (string (name_of op))) × IsFieldFault (field_names op) v kind

-- the order in which faults are looked for
abbrev pub rank : ReadKind → ℕ
rank NotAList = 1
rank NotAnObject = 2
rank MissingOp = 3
rank OpNotText = 4
rank UnknownOp = 5
rank MissingFrom = 6
rank FromNotText = 7
rank (BadFrom e) = 8
rank MissingPath = 9
rank PathNotText = 10
rank (BadPath e) = 11
rank MissingValue = 12
rank ValueNotWhole = 13

-- none of the faults has a rank below r
abbrev pub NoneBelow : (ReadKind → Type 0) → ℕ → Type 0
NoneBelow IsAtFault r = (kind : ReadKind) → rank kind < r → IsAtFault kind → ⊥

-- the first of the faults
pub record IsFirst (IsAtFault : ReadKind → Type 0) (kind : ReadKind) : Type 0 where
  pub here : IsAtFault kind
  pub none_before : NoneBelow IsAtFault (rank kind)

-- v isn't read as an operation with members of these names, for this kind
abbrev pub RefusesFields : List (List ℕ) → Data → ReadKind → Type 0
RefusesFields names v kind = IsFirst (IsFieldFault names v) kind

-- v isn't read as an operation, for this kind
abbrev pub RefusesOperation : Data → ReadKind → Type 0
RefusesOperation v kind = IsFirst (IsOperationFault v) kind

-- the elements before the one at k read as operations, and that one doesn't, for this kind
abbrev pub RefusesItem : Items → ℕ → ReadKind → Type 0
RefusesItem no_items k kind = ⊥
RefusesItem (item d ds) zero kind = RefusesOperation d kind
RefusesItem (item d ds) (suc k) kind = (op : Operation) × ReadsOperation d op × RefusesItem ds k kind

-- v isn't read as a patch, for this kind: at this element of the array, or since v is no array
abbrev pub RefusesPatch : Data → Option ℕ → ReadKind → Type 0
RefusesPatch (array ds) (Some k) kind = RefusesItem ds k kind
RefusesPatch (array ds) None kind = ⊥
RefusesPatch v (Some k) kind = ⊥
RefusesPatch v None kind = kind ≡ NotAList

-- what is said of a refusal; where memory ran out, nothing is said
abbrev pub OfRefusal : (ReadError → Type 0) → ReadFault → Type 0
OfRefusal P (Refused e) = P e
OfRefusal P (Memory e) = Unit {0}

abbrev pub IfUnreadable : {T : Type 0} → Result T ReadFault → (ReadError → Type 0) → Type 0
IfUnreadable r P = IfErr r (OfRefusal P)

-- what is said of the kind of a refusal that has no number: that of a single operation
abbrev pub OfKind : (ReadKind → Type 0) → ReadFault → Type 0
OfKind P = OfRefusal (λ e. (e.operation ≡ None) × P e.kind)

abbrev pub IfUnreadAlone : {T : Type 0} → Result T ReadFault → (ReadKind → Type 0) → Type 0
IfUnreadAlone r P = IfErr r (OfKind P)

-- ---- what is written

-- these members, in the order of their names
abbrev pub sorted_members : List (List ℕ × Data) → Members
sorted_members [] = no_members
sorted_members (f ∷ fs) = put f.0 f.1 (sorted_members fs)

-- the value of an operation, without its `op`
abbrev pub written_fields : Operation → Data
written_fields op = object (sorted_members (fields op))

-- the value of an operation
abbrev pub written_value : Operation → Data
written_value op = object (sorted_members (all_fields op))

-- the value of a patch
abbrev pub written_patch : List Operation → Data
written_patch ops = array (items_of (map written_value ops))

-- ---- for private clauses

-- the members of parts, with a member `op` in front where there is a string for it
abbrev pub named_fields : Option (List ℕ) → Parts → List (List ℕ × Data)
named_fields name p = field_if (codes "op") (option_map string name) ++ part_fields p

-- the value of parts
abbrev pub written_parts : Option (List ℕ) → Parts → Data
written_parts name p = object (sorted_members (named_fields name p))
