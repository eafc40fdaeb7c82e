-- The part of a document that a list of operations is about: the tokens that begin the parent of each of their
-- pointers (RFC 6901, section 3; RFC 6902, section 4).
use Rattle.std.specs.Prelude.{◌≡◌, List, [], ◌∷◌, ◌++◌, length, drop, map}
use Rattle.serde_json.specs.Data.{Data}
use Rattle.jsonptr.specs.Text.{Pointer, IsPrefix, IsProperPrefix}
use Rattle.json_patch_document.specs.Document.{Segment, look}
use Rattle.json_patch_operation.specs.Operation.{Operation, add, remove, replace, move, copy, test}
use Rattle.json_patch_document.specs.Resolve.{Resolves}

-- S begins the parent of each pointer of op: each is S and at least one token more
abbrev pub IsWithin : Pointer → Operation → Type 0
IsWithin S (add P v) = IsProperPrefix S P
IsWithin S (remove P) = IsProperPrefix S P
IsWithin S (replace P v) = IsProperPrefix S P
IsWithin S (move F P) = IsProperPrefix S F × IsProperPrefix S P
IsWithin S (copy F P) = IsProperPrefix S F × IsProperPrefix S P
IsWithin S (test P v) = IsProperPrefix S P

abbrev pub AreWithin : Pointer → List Operation → Type 0
AreWithin S [] = Unit {0}
AreWithin S (op ∷ ops) = IsWithin S op × AreWithin S ops

-- e looks as d at each location that is not at or under the one to which S leads in d
abbrev pub KeepsElsewhere : Pointer → Data → Data → Type 0
KeepsElsewhere S d e = (X : List Segment) → ((L R : List Segment) (c : Data) → Resolves d S L c → X ≡ L ++ R → ⊥) → look e X ≡ look d X

abbrev pub IsNotEmpty : List Operation → Type 0
IsNotEmpty [] = ⊥
IsNotEmpty (op ∷ ops) = Unit {0}

-- S is the longest list of tokens that begins the parent of every pointer: there is none where the list is empty or
-- a pointer is the root
pub record IsShared (ops : List Operation) (S : Pointer) : Type 0 where
  pub some : IsNotEmpty ops
  pub within : AreWithin S ops
  pub longest : (T : Pointer) → AreWithin T ops → IsPrefix T S

-- op with each pointer taken from where S ends: without as many tokens at its front as S has
abbrev pub strip : Pointer → Operation → Operation
strip S (add P v) = add (drop (length S) P) v
strip S (remove P) = remove (drop (length S) P)
strip S (replace P v) = replace (drop (length S) P) v
strip S (move F P) = move (drop (length S) F) (drop (length S) P)
strip S (copy F P) = copy (drop (length S) F) (drop (length S) P)
strip S (test P v) = test (drop (length S) P) v

abbrev pub strip_all : Pointer → List Operation → List Operation
strip_all S [] = []
strip_all S (op ∷ ops) = strip S op ∷ strip_all S ops

-- op with the tokens of S in front of each pointer
abbrev pub extend : Pointer → Operation → Operation
extend S (add P v) = add (S ++ P) v
extend S (remove P) = remove (S ++ P)
extend S (replace P v) = replace (S ++ P) v
extend S (move F P) = move (S ++ F) (S ++ P)
extend S (copy F P) = copy (S ++ F) (S ++ P)
extend S (test P v) = test (S ++ P) v

abbrev pub extend_all : Pointer → List Operation → List Operation
extend_all S ops = map (extend S) ops
