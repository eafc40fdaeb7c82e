-- The names that most proofs of this crate speak of.
pub use Rattle.std.proofs.Common.{◌≡◌, ℕ, List, [], ◌∷◌, ◌++◌, Option, Some, option_map, refl, ap, rules, ◌+◌, inl, inr}
pub use Rattle.std.proofs.Common.{suc, length, Result, sym, ◌∙◌, subst, arith, ◌<◌, zero, take, get_or, codes, None}
pub use Rattle.std.proofs.Common.{◌↔◌, append_assoc, ⊎_elim, ◌⊎◌, ◌-◌, Bool, false, drop, append-nil, true, bytes_eq}
pub use Rattle.std.proofs.Common.{IsTrue, string_bytes, ◌&&◌, ◌≢◌, map, ◌/◌, ◌%◌, ◌^◌, chars, flat_map, encode_utf8}
pub use Rattle.std.proofs.Common.{IsUtf8, true≢false}
pub use Rattle.std.proofs.Output.{has_written_append, has_written_of_eq}
pub use Rattle.std.proofs.lemmas.Bool.{and_parts}
pub use Rattle.std.proofs.lemmas.Bool.Decides.{Decides-and, Decides-at}
pub use Rattle.std.proofs.lemmas.Grind.{common_steps}
pub use Rattle.std.proofs.lemmas.List.{take_all, drop_more, drop_all}
pub use Rattle.std.proofs.lemmas.Slice.Eq.{bytes_eq-Decides}
pub use Rattle.std.proofs.lemmas.Str.{IsUtf8-past_char, chars-nil, chars_past_char}
pub use Rattle.std.specs.Bool.{Decides}
pub use Rattle.std.specs.Cmp.Lexicographic.{pointwise}
pub use Rattle.std.specs.Fmt.{HasWritten, IsPlainFormatter, format_spec}
pub use Rattle.std.specs.Ordering.{on}
pub use Rattle.std.specs.Result.{is_ok}
pub use Rattle.std.specs.Str.Iter.{chars_rest}
pub use Rattle.std.specs.declared.alloc.AllocError.{AllocError}
pub use Rattle.serde_json.specs.Data.{Data, Items, array, item, string, object, Members, no_members, member, null}
pub use Rattle.serde_json.specs.Data.{no_items}
pub use Rattle.serde_json.specs.Find.{get}
pub use Rattle.serde_json.specs.View.{view, items_view, members_view, items_of}
pub use Rattle.serde_json.specs.declared.value.Value.{Value, the_lemmas}
pub use Rattle.jsonptr.specs.Pointers.{tokens_of}
pub use Rattle.jsonptr.specs.Text.{Pointer, text_of}
pub use Rattle.jsonptr.specs.TextLaws.{one_fault, one_pointer, pointer_has_no_fault, pointer_or_fault}
pub use Rattle.json_patch_document.specs.Document.{IsDocument, AreDocuments}
pub use Rattle.json_patch_operation.specs.Operation.{Operation, test, IsWholeOp, AreWhole, operation_of, operations}
pub use Rattle.json_patch_operation.specs.Operation.{add, move, remove, replace, copy, Parts, parts_of}
pub use Rattle.json_patch_operation.specs.PartsView.{parts_view}
pub use Rattle.json_patch_operation.specs.PatchValue.{IfUnreadAlone, OfKind, ReadsItems, ReadsOperation, ReadsPatch}
pub use Rattle.json_patch_operation.specs.PatchValue.{RefusesItem, RefusesFields, RefusesOperation, name_of}
pub use Rattle.json_patch_operation.specs.PatchValue.{field_names, IsObject, Lacks, HasNoText, HasNoPointer}
pub use Rattle.json_patch_operation.specs.PatchValue.{HasNoDocument, IsFieldFault, NoneBelow, IsFirst, rank, field_if}
pub use Rattle.json_patch_operation.specs.PatchValue.{pointer_text, ReadsFields, IsOneOf, IsOperationFault}
pub use Rattle.json_patch_operation.specs.PatchValue.{written_value, written_fields, written_patch, from_and_path}
pub use Rattle.json_patch_operation.specs.PatchValue.{all_fields}
pub use Rattle.json_patch_operation.specs.Printed.{character_text, quote, value_text, printed_items, printed_members}
pub use Rattle.json_patch_operation.specs.Printed.{fields_text, parts_text, leading_text, trailing_text}
pub use Rattle.json_patch_operation.specs.Printed.{operation_items, object_of}
pub use Rattle.json_patch_operation.specs.ReadSteps.{HasAnyFrom, IsPointerAt}
pub use Rattle.json_patch_operation.specs.SameComputed.{same_operation, same_parts}
pub use Rattle.json_patch_operation.specs.Shared.{AreWithin}
pub use Rattle.json_patch_operation.specs.declared.read_error.ReadKind.{ReadKind}
pub use Rattle.json_patch_operation.specs.declared.read_error.ReadKind.TheVariants.{BadFrom, BadPath, FromNotText}
pub use Rattle.json_patch_operation.specs.declared.read_error.ReadKind.TheVariants.{MissingFrom, MissingOp, MissingPath}
pub use Rattle.json_patch_operation.specs.declared.read_error.ReadKind.TheVariants.{MissingValue, NotAList, NotAnObject}
pub use Rattle.json_patch_operation.specs.declared.read_error.ReadKind.TheVariants.{OpNotText, PathNotText, UnknownOp}
pub use Rattle.json_patch_operation.specs.declared.read_error.ReadKind.TheVariants.{ValueNotWhole}
pub use Rattle.json_patch_operation.specs.declared.operation.PatchOperation.{PatchOperation}
pub use denote.Shadow.{shadow}
pub use denote.Text.{Utf8}
