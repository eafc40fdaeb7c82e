-- The operations of JSON Patch (RFC 6902, section 4).
use Rattle.std.specs.Prelude.{ℕ, List, [], ◌∷◌, map, codes, Option, Some, None, IfSome}
use Rattle.serde_json.specs.Data.{Data}
use Rattle.serde_json.specs.View.{view}
use Rattle.jsonptr.specs.Text.{Pointer}
use Rattle.json_patch_document.specs.Document.{IsDocument}
use Rattle.json_patch_operation.specs.declared.operation.AddOperation.{AddOperation}
use Rattle.json_patch_operation.specs.declared.operation.CopyOperation.{CopyOperation}
use Rattle.json_patch_operation.specs.declared.operation.MoveOperation.{MoveOperation}
use Rattle.json_patch_operation.specs.declared.operation.Patch.{Patch}
use Rattle.json_patch_operation.specs.declared.operation.PatchOperation.{PatchOperation}
use Rattle.json_patch_operation.specs.declared.operation.RemoveOperation.{RemoveOperation}
use Rattle.json_patch_operation.specs.declared.operation.ReplaceOperation.{ReplaceOperation}
use Rattle.json_patch_operation.specs.declared.operation.TestOperation.{TestOperation}
use Rattle.json_patch_operation.specs.declared.operation.PatchOperation.TheVariants.{Add, Remove, Replace, Move, Copy, Test}

pub data Operation : Type 0 where
  add : Pointer → Data → Operation
  remove : Pointer → Operation
  replace : Pointer → Data → Operation
  move : Pointer → Pointer → Operation
  copy : Pointer → Pointer → Operation
  test : Pointer → Data → Operation

-- what an operation of the program stands for; `o.path` and `o.from` stand for their tokens
abbrev pub add_of : AddOperation → Operation
add_of o = add o.path (view o.value)

abbrev pub remove_of : RemoveOperation → Operation
remove_of o = remove o.path

abbrev pub replace_of : ReplaceOperation → Operation
replace_of o = replace o.path (view o.value)

abbrev pub move_of : MoveOperation → Operation
move_of o = move o.from o.path

abbrev pub copy_of : CopyOperation → Operation
copy_of o = copy o.from o.path

abbrev pub test_of : TestOperation → Operation
test_of o = test o.path (view o.value)

abbrev pub operation_of : PatchOperation → Operation
operation_of (Add o) = add_of o
operation_of (Remove o) = remove_of o
operation_of (Replace o) = replace_of o
operation_of (Move o) = move_of o
operation_of (Copy o) = copy_of o
operation_of (Test o) = test_of o

abbrev pub operations : List PatchOperation → List Operation
operations os = map operation_of os

-- the operations of a patch
abbrev pub operations_of : Patch → List Operation
operations_of p = operations p.0.items

-- the parts of an operation: its name in exactly these letters, its `path`, and its `from` and `value` where it has them
pub record Parts : Type 0 where
  pub name : List ℕ
  pub from : Option Pointer
  pub path : Pointer
  pub value : Option Data

abbrev pub parts_of : Operation → Parts
parts_of (add P v) = record { name = codes "add"; from = None; path = P; value = Some v }
parts_of (remove P) = record { name = codes "remove"; from = None; path = P; value = None }
parts_of (replace P v) = record { name = codes "replace"; from = None; path = P; value = Some v }
parts_of (move F P) = record { name = codes "move"; from = Some F; path = P; value = None }
parts_of (copy F P) = record { name = codes "copy"; from = Some F; path = P; value = None }
parts_of (test P v) = record { name = codes "test"; from = None; path = P; value = Some v }

abbrev pub path_of : Operation → Pointer
path_of op = (parts_of op).path

abbrev pub from_of : Operation → Option Pointer
from_of op = (parts_of op).from

-- the operation's value, if it has one, is a document
abbrev pub IsWholeOp : Operation → Type 0
IsWholeOp op = IfSome (parts_of op).value IsDocument

abbrev pub AreWhole : List Operation → Type 0
AreWhole [] = Unit {0}
AreWhole (op ∷ ops) = IsWholeOp op × AreWhole ops
