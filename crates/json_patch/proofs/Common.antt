-- The names that most proofs of this crate speak of.
pub use Rattle.std.proofs.Common.{◌≡◌, ℕ, List, [], ◌∷◌, ◌++◌, Option, Some, option_map, refl, ap, rules, ◌+◌, inl, inr}
pub use Rattle.std.proofs.Common.{suc, length, Result, sym, ◌∙◌, subst, arith, length-append, ◌<◌, zero, take, get_or}
pub use Rattle.std.proofs.Common.{None, append_assoc, ⊎_elim, Ordering, Less, Equal, Greater, nat_cmp, Global, ◌⊎◌, ◌≤◌}
pub use Rattle.std.proofs.Common.{Bool, false, drop, true, if◌then◌else◌, ◌^◌, true≢false, option_and_then, Ok, Err}
pub use Rattle.std.proofs.Common.{Vec, ◌*◌, add-one, IfOk}
pub use Rattle.std.specs.Cmp.Lexicographic.{slice_cmp}
pub use Rattle.std.specs.Ordering.{match_ordering}
pub use Rattle.std.specs.declared.alloc.AllocError.{AllocError}
pub use Rattle.serde_json.specs.Data.{Data, Items, array, item, object, Members, no_members, member, put, null}
pub use Rattle.serde_json.specs.Data.{no_items, number}
pub use Rattle.serde_json.specs.Events.{items_len}
pub use Rattle.serde_json.specs.Find.{get_member, get_item}
pub use Rattle.serde_json.specs.View.{view}
pub use Rattle.serde_json.specs.declared.value.Value.{Value}
pub use Rattle.jsonptr.specs.Pointers.{tokens_of, token_of}
pub use Rattle.jsonptr.specs.Text.{Pointer, ReplacesLast}
pub use Rattle.json_patch_document.specs.ChangeComputed.{set_child, remove_item, without, insert_item, set_item}
pub use Rattle.json_patch_document.specs.ChangeComputed.{segment_of, pointee, after_change, front_of, last_of}
pub use Rattle.json_patch_document.specs.ChangeComputed.{drop_child, after_remove, after_add, slot_in}
pub use Rattle.json_patch_document.specs.Document.{Segment, child, IsDocument, key, place, AreMembers, IsBelowMembers}
pub use Rattle.json_patch_document.specs.Document.{AreDocuments}
pub use Rattle.json_patch_operation.specs.Operation.{Operation, IsWholeOp, AreWhole, operation_of, operations, add}
pub use Rattle.json_patch_operation.specs.Operation.{move, path_of, from_of}
pub use Rattle.json_patch_operation.specs.declared.operation.PatchOperation.{PatchOperation}
pub use Rattle.std.proofs.lemmas.Option.{option_and_then_some}
pub use Rattle.jsonptr.specs.Places.{next_token, decimal_token}
pub use Rattle.json_patch_edit.specs.Attempt.{Attempts, ComesTo}
pub use Rattle.json_patch_edit.specs.InverseComputed.{undo_in, undo_add, settled_token, undo_at, block, inverse}
pub use Rattle.json_patch_edit.specs.RunComputed.{after_step}
pub use Rattle.json_patch_edit.specs.Step.{Leaves, Refuses}
pub use Rattle.json_patch_operation.specs.declared.error.PatchErrorKind.{PatchErrorKind}
pub use Rattle.json_patch_operation.specs.declared.error.PatchErrorKind.TheVariants.{InvalidPointer}
pub use Rattle.json_patch_edit.specs.declared.error.StepFault.{StepFault}
pub use Rattle.json_patch_edit.specs.declared.error.StepFault.TheVariants.{Refused}
pub use Rattle.json_patch_laws.specs.Inverse.{ArePlain, IsInverse}
pub use Rattle.json_patch_laws.specs.Run.{Accepts, RefusesAt, IsAccepted}
pub use Rattle.std.specs.List.{slice_get}
pub use Rattle.std.specs.Result.{is_err}
pub use Rattle.jsonptr.specs.PlaceLaws.{token_is_decimal}
pub use Rattle.json_patch_edit.specs.NoMemory.{TakeNoMemory, AreTestsThenRemove, TakesNoMemory, NeverShort}
pub use Rattle.json_patch_edit.specs.SeenEdits.{count_in}
