-- The names that most proofs of this crate speak of.
pub use Rattle.std.proofs.Common.{◌≡◌, ℕ, List, [], ◌∷◌, ◌++◌, Option, Some, option_map, refl, ap, rules, ◌+◌, inl, inr}
pub use Rattle.std.proofs.Common.{suc, length, Result, sym, ◌∙◌, subst, arith, ◌<◌, zero, take, get_or, None, ◌↔◌}
pub use Rattle.std.proofs.Common.{⊎_elim, Ordering, Less, Equal, Greater, nat_cmp, String, Global, ◌⊎◌, ◌-◌, ◌≤◌, Bool}
pub use Rattle.std.proofs.Common.{false, drop, true, bytes_eq, if◌then◌else◌, IfSome, set, cond, string_bytes, ◌&&◌}
pub use Rattle.std.proofs.Common.{◌≢◌, true≢false, option_and_then, Ok, Err, Vec, vec_len, BTreeMap, IfNone, not, ◌*◌}
pub use Rattle.std.proofs.Common.{MatchResult}
pub use Rattle.std.proofs.lemmas.Bool.{cases_eq, cases_lt}
pub use Rattle.std.proofs.lemmas.Grind.{common_steps}
pub use Rattle.std.proofs.lemmas.Slice.Eq.{bytes_eq-Decides}
pub use Rattle.std.specs.BTreeMap.{insert_entry}
pub use Rattle.std.specs.Cmp.Lexicographic.{slice_cmp}
pub use Rattle.std.specs.List.{insert}
pub use Rattle.std.specs.Map.{lookup, set_value, remove_entry}
pub use Rattle.std.specs.Ordering.{match_ordering}
pub use Rattle.std.specs.String.{string_cmp}
pub use Rattle.serde_json.proofs.Views.{get_member-put, get_member-put_other, Entry, members_view-insert_entry}
pub use Rattle.serde_json.proofs.Views.{view-lookup, view-Array, view-Object, items_len-items_view, get_item_within}
pub use Rattle.serde_json.proofs.Views.{get_item_past, member_here, member_later, view_of_ref}
pub use Rattle.serde_json.specs.Data.{Data, Items, array, item, object, Members, no_members, member, put, no_items}
pub use Rattle.serde_json.specs.Events.{items_len}
pub use Rattle.serde_json.specs.Find.{get_member, get_item}
pub use Rattle.serde_json.specs.View.{view, items_view, members_view}
pub use Rattle.serde_json.specs.declared.value.Value.{Value, the_lemmas, Array, Object}
pub use Rattle.jsonptr.specs.Pointers.{tokens_of, token_of, tokens_left}
pub use Rattle.jsonptr.specs.Text.{Pointer, IsProperPrefix}
pub use Rattle.json_patch_document.specs.ChangeComputed.{set_child, remove_item, without, insert_item, set_item}
pub use Rattle.json_patch_document.specs.ChangeComputed.{segment_of, pointee, after_change, after_replace, front_of}
pub use Rattle.json_patch_document.specs.ChangeComputed.{last_of, drop_child, take_from, after_remove, after_add}
pub use Rattle.json_patch_document.specs.ChangeComputed.{put_in, slot_in, slot_of}
pub use Rattle.json_patch_document.specs.Document.{Segment, child, IsDocument, key, place, AreMembers, IsBelowMembers}
pub use Rattle.json_patch_document.specs.Document.{AreDocuments, look, sight, value_at}
pub use Rattle.json_patch_operation.specs.Operation.{Operation, test, IsWholeOp, add, move, remove, replace, copy}
pub use Rattle.json_patch_document.specs.SameComputed.{same, same_items, same_members}
pub use Rattle.std.proofs.lemmas.Bool.Decides.{nat_tests}
pub use Rattle.std.proofs.lemmas.List.{append_cancel_left}
pub use Rattle.std.proofs.lemmas.Option.{option_and_then_some}
pub use Rattle.std.specs.Result.{IsErr, IsErrAnd}
pub use Rattle.jsonptr.specs.PlaceLaws.{place_is_token, next_is_no_place}
pub use Rattle.jsonptr.specs.Places.{place_of, next_token, decimal_token}
pub use Rattle.json_patch_edit.specs.Attempt.{Attempts}
pub use Rattle.json_patch_edit.specs.Change.{IsBeside, TakesAt, IsRemoved, ShiftsUp, PutsAt, IsAdded, IsReplaced}
pub use Rattle.json_patch_edit.specs.Change.{SetsAt}
pub use Rattle.json_patch_edit.specs.NoMemory.{AreUnescaped}
pub use Rattle.json_patch_edit.specs.InverseComputed.{undo_in, undo_add, settled_token, undo_at}
pub use Rattle.json_patch_document.specs.Resolve.{Names, Resolves, StandsAt, Aims, HasTarget}
pub use Rattle.json_patch_edit.specs.RunComputed.{after_step, or_refused, begins, after_move, after_copy, after_test}
pub use Rattle.json_patch_edit.specs.Step.{Leaves, Never, Refuses}
pub use Rattle.json_patch_operation.specs.declared.error.PatchErrorKind.{PatchErrorKind}
pub use Rattle.json_patch_operation.specs.declared.error.PatchErrorKind.TheVariants.{InvalidPointer, InvalidFromPointer}
pub use Rattle.json_patch_operation.specs.declared.error.PatchErrorKind.TheVariants.{CannotMoveInsideItself, TestFailed}
pub use Rattle.json_patch_edit.specs.declared.error.StepFault.{StepFault}
pub use Rattle.json_patch_edit.specs.declared.error.StepFault.TheVariants.{Refused}
