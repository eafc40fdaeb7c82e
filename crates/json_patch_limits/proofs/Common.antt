-- The names that most proofs of this crate speak of.
pub use Rattle.std.proofs.Common.{Bool, Equal, Err, Greater, Less, List, None, Ok, Option, Ordering, Result, Some}
pub use Rattle.std.proofs.Common.{[], add-one, ap, ap₂, arith, drop, false, if◌then◌else◌, length, nat_cmp, refl}
pub use Rattle.std.proofs.Common.{rules, subst, suc, sym, true, zero, ℕ, ⊎_elim, ◌+◌, ◌-◌, ◌<◌, ◌↔◌, ◌∙◌, ◌∷◌, ◌≡◌}
pub use Rattle.std.proofs.Common.{◌≤◌}
pub use Rattle.std.proofs.lemmas.Bool.{cases_lt}
pub use Rattle.std.proofs.lemmas.Bool.Decides.{nat_tests}
pub use Rattle.std.proofs.lemmas.List.{drop_all, length-map}
pub use Rattle.std.proofs.lemmas.Option.{option_and_then_some}
pub use Rattle.std.specs.Cmp.Lexicographic.{slice_cmp}
pub use Rattle.std.specs.Ordering.{match_ordering}
pub use Rattle.serde_json.proofs.Views.{get_member-put}
pub use Rattle.serde_json.specs.Data.{Data, Items, Members, array, item, member, no_items, no_members, object, put}
pub use Rattle.serde_json.specs.Find.{get_item, get_member}
pub use Rattle.serde_json.specs.View.{items_view, members_view, view}
pub use Rattle.jsonptr.specs.Pointers.{tokens_of}
pub use Rattle.jsonptr.specs.Text.{Pointer}
pub use Rattle.json_patch_document.specs.ChangeComputed.{after_add, after_change, after_remove, after_replace}
pub use Rattle.json_patch_document.specs.ChangeComputed.{drop_child, front_of, insert_item, last_of, pointee, put_in}
pub use Rattle.json_patch_document.specs.ChangeComputed.{remove_item, segment_of, set_child, set_item, slot_of}
pub use Rattle.json_patch_document.specs.ChangeComputed.{take_from, without}
pub use Rattle.json_patch_document.specs.Document.{AreMembers, IsBelowMembers, IsDocument, Segment, child, key}
pub use Rattle.json_patch_document.specs.Document.{place}
pub use Rattle.json_patch_edit.specs.Attempt.{ComesTo}
pub use Rattle.json_patch_edit.specs.Change.{IsRemoved}
pub use Rattle.json_patch_edit.specs.RunComputed.{after_copy, after_move, after_step, after_test, begins, or_refused}
pub use Rattle.json_patch_edit.specs.Step.{Leaves}
pub use Rattle.json_patch_edit.specs.declared.error.StepFault.{StepFault}
pub use Rattle.json_patch_operation.specs.Operation.{IsWholeOp, Operation, add, copy, move, operation_of, operations}
pub use Rattle.json_patch_operation.specs.Operation.{path_of, remove, replace, test}
pub use Rattle.json_patch_operation.specs.declared.error.PatchErrorKind.{PatchErrorKind}
pub use Rattle.json_patch_operation.specs.declared.error.PatchErrorKind.TheVariants.{CannotMoveInsideItself}
pub use Rattle.json_patch_operation.specs.declared.error.PatchErrorKind.TheVariants.{InvalidFromPointer}
pub use Rattle.json_patch_operation.specs.declared.error.PatchErrorKind.TheVariants.{InvalidPointer}
pub use Rattle.json_patch_operation.specs.declared.operation.PatchOperation.{PatchOperation}
