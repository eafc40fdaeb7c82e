-- Two values of which the one is read as an operation where the other is, and is refused for the same kind.
use Rattle.std.proofs.Common.{◌≡◌, ℕ, List, Some, None}
use Rattle.serde_json.specs.Data as value
use Rattle.serde_json.specs.Data.{Data}
use Rattle.serde_json.specs.Find.{get}
use Rattle.json_patch_document.specs.Document.{IsDocument}
use Rattle.json_patch_operation.specs.PatchValue.{field_names, name_of, IsObject, Lacks, HasNoText, IsFieldFault, IsOperationFault, RefusesOperation}
use Rattle.json_patch_operation.specs.declared.read_error.ReadKind.{ReadKind}
use Rattle.json_patch_operation.specs.declared.read_error.ReadKind.TheVariants.{NotAList, NotAnObject, MissingOp, OpNotText, UnknownOp, MissingFrom, FromNotText, BadFrom, MissingPath, PathNotText, BadPath, MissingValue, ValueNotWhole}
use Rattle.json_patch_text.specs.Outline.{Asked, its_from, its_op, its_path, its_value, name_asked}

-- what d is and has as an operation, e is and has: texts as they are, and elsewhere something that is no text
pub record Alike (d e : Data) : Type 0 where
  pub object : IsObject d → IsObject e
  pub none : (a : Asked) → get (name_asked a) d ≡ None → get (name_asked a) e ≡ None
  pub text : (a : Asked) (t : List ℕ) → get (name_asked a) d ≡ Some (value.string t) → get (name_asked a) e ≡ Some (value.string t)
  pub other : (a : Asked) → HasNoText d (name_asked a) → HasNoText e (name_asked a)
  pub whole : (a : Asked) (x : Data) → get (name_asked a) d ≡ Some x → IsDocument x

module _ {d e : Data} (there : Alike d e) (back : Alike e d) where
  lacks : (a : Asked) → Lacks d (name_asked a) → Lacks e (name_asked a)
  lacks a (o, n) = (there.object o, there.none a n)

  field_fault : (names : List (List ℕ)) (kind : ReadKind) → IsFieldFault names d kind → IsFieldFault names e kind
  field_fault names NotAnObject f = λ o. f (back.object o)
  field_fault names MissingFrom f = (f.0, lacks its_from f.1)
  field_fault names FromNotText f = (f.0, there.other its_from f.1)
  field_fault names (BadFrom x) f = (f.0, (f.1.0, there.text its_from f.1.0 f.1.1, f.1.2))
  field_fault names MissingPath f = lacks its_path f
  field_fault names PathNotText f = there.other its_path f
  field_fault names (BadPath x) f = (f.0, there.text its_path f.0 f.1, f.2)
  field_fault names MissingValue f = (f.0, lacks its_value f.1)
  field_fault names ValueNotWhole f = absurd (f.1.2 (there.whole its_value f.1.0 f.1.1))
  field_fault names NotAList f = absurd f
  field_fault names MissingOp f = absurd f
  field_fault names OpNotText f = absurd f
  field_fault names UnknownOp f = absurd f

  pub operation_fault : (kind : ReadKind) → IsOperationFault d kind → IsOperationFault e kind
  operation_fault NotAnObject f = λ o. f (back.object o)
  operation_fault MissingOp f = lacks its_op f
  operation_fault OpNotText f = there.other its_op f
  operation_fault UnknownOp f = (f.0, there.text its_op f.0 f.1, f.2)
  operation_fault kind f = (f.0, there.text its_op (name_of f.0) f.1, field_fault (field_names f.0) kind f.2)

pub refuses_alike : {d e : Data} → Alike d e → Alike e d → (kind : ReadKind) → RefusesOperation d kind → RefusesOperation e kind
refuses_alike there back kind f = record { here = operation_fault there back kind f.here; none_before = λ other less at. f.none_before other less (operation_fault back there other at) }
