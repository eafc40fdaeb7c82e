-- The names that most proofs of this crate speak of.
pub use Rattle.std.proofs.Common.{◌≡◌, ℕ, List, [], ◌∷◌, ◌++◌, Option, Some, option_map, refl, ap, rules, ◌+◌, inl, inr}
pub use Rattle.std.proofs.Common.{suc, length, Result, sym, ◌∙◌, subst, arith, ◌<◌, zero, get_or, None, ◌↔◌}
pub use Rattle.std.proofs.Common.{append_assoc, ⊎_elim, ◌≤◌, Bool, false, drop, append-nil, true, bytes_eq}
pub use Rattle.std.proofs.Common.{if◌then◌else◌, IsTrue, IfSome, option_and_then, Ok, Err, IfNone, not, ◌*◌}
pub use Rattle.std.proofs.Common.{length-append, ap₂, add-one, is_some}
pub use Rattle.std.proofs.lemmas.Grind.{common_steps}
pub use Rattle.std.proofs.lemmas.Slice.Eq.{bytes_eq-Decides}
pub use Rattle.serde_json.proofs.Views.{get_member-put}
pub use Rattle.serde_json.specs.Data.{Data, Items, array, item, object, null, no_items}
pub use Rattle.serde_json.specs.Find.{get_item}
pub use Rattle.jsonptr.specs.Text.{Pointer, IsProperPrefix, IsPrefix, IsLongestShared}
pub use Rattle.json_patch_document.specs.ChangeComputed.{set_child, without, set_item, segment_of, pointee}
pub use Rattle.json_patch_document.specs.ChangeComputed.{after_change, after_replace, front_of, last_of, take_from}
pub use Rattle.json_patch_document.specs.ChangeComputed.{after_remove, after_add, put_in}
pub use Rattle.json_patch_document.specs.Document.{Segment, child, IsDocument, key, place, sight_of, look}
pub use Rattle.json_patch_operation.specs.Operation.{Operation, test, IsWholeOp, AreWhole, operation_of, operations}
pub use Rattle.json_patch_operation.specs.Operation.{add, move, remove, replace, copy, path_of, from_of}
pub use Rattle.json_patch_document.specs.SameComputed.{same}
pub use Rattle.json_patch_operation.specs.Shared.{AreWithin, IsNotEmpty, IsShared, IsWithin, strip, strip_all, extend}
pub use Rattle.json_patch_operation.specs.Shared.{extend_all}
pub use Rattle.json_patch_operation.specs.declared.operation.PatchOperation.{PatchOperation}
pub use Rattle.std.proofs.lemmas.List.{append_cancel_left, map-append}
pub use Rattle.std.proofs.lemmas.Option.{option_and_then_some}
pub use Rattle.jsonptr.specs.PlaceLaws.{place_is_token, next_is_no_place}
pub use Rattle.jsonptr.specs.Places.{place_of, next_token}
pub use Rattle.json_patch_edit.specs.Change.{IsAdded, IsReplaced}
pub use Rattle.json_patch_edit.specs.InverseComputed.{undo_in, undo_add, settled_token, undo_at, with_found, with_left}
pub use Rattle.json_patch_edit.specs.InverseComputed.{block, inverse}
pub use Rattle.json_patch_document.specs.Resolve.{Resolves, StandsAt, Aims, HasTarget}
pub use Rattle.json_patch_edit.specs.RunComputed.{after_step, or_refused, begins, after_move, after_copy, after_test}
pub use Rattle.json_patch_edit.specs.RunComputed.{Outcome, fault, one_later, then_run, after_run}
pub use Rattle.json_patch_document.specs.Sight.{Sight}
pub use Rattle.json_patch_edit.specs.Step.{Leaves, Refuses}
pub use Rattle.json_patch_operation.specs.declared.error.PatchErrorKind.{PatchErrorKind}
pub use Rattle.json_patch_operation.specs.declared.error.PatchErrorKind.TheVariants.{InvalidPointer, InvalidFromPointer}
pub use Rattle.json_patch_operation.specs.declared.error.PatchErrorKind.TheVariants.{CannotMoveInsideItself, TestFailed}
pub use Rattle.json_patch_laws.specs.Inverse.{ArePlain, IsBlock, IsInverse, IsPlain, NamesNoNext, TakesBack, UndoesAdd}
pub use Rattle.json_patch_laws.specs.Run.{Accepts, RefusesAt, IsAccepted, IsRefused, Ends, AreTests}
pub use Rattle.json_patch_laws.specs.SharedComputed.{IsLongest, common_prefix, all_pointers, parents_of, shared_of}
pub use Rattle.json_patch_laws.specs.SharedComputed.{shared_tokens}
pub use Rattle.std.proofs.Common.{take, unwrap_or, ◌-◌, ◌≢◌, ◌⊎◌}
pub use Rattle.std.proofs.lemmas.Bool.Decides.{nat_tests}
pub use Rattle.std.proofs.lemmas.List.{take_all}
pub use Rattle.serde_json.specs.Data.{Members, member, no_members, put}
pub use Rattle.serde_json.specs.Find.{get_member}
pub use Rattle.json_patch_merge.specs.Merged.{IsMerged}
pub use Rattle.json_patch_merge.specs.MergedComputed.{after_merge, members_after_merge, members_of}
