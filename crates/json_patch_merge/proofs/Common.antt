-- The names that most proofs of this crate speak of.
pub use Rattle.std.proofs.Common.{◌≡◌, ℕ, List, [], ◌∷◌, ◌++◌, Option, Some, refl, ap, rules, ◌+◌, inl, inr, suc}
pub use Rattle.std.proofs.Common.{Result, sym, ◌∙◌, subst, arith, None, ◌↔◌, ⊎_elim, Ordering, nat_cmp, String, Global}
pub use Rattle.std.proofs.Common.{◌⊎◌, ◌≤◌, Bool, false, true, string_bytes, ◌≢◌, map, Ok, Err, Vec, BTreeMap, ◌*◌}
pub use Rattle.std.proofs.Common.{IsOk, is_some, unwrap_or}
pub use Rattle.std.specs.BTreeMap.{insert_entry}
pub use Rattle.std.specs.Cmp.Lexicographic.{slice_cmp}
pub use Rattle.std.specs.Map.{lookup, set_value, remove_entry}
pub use Rattle.std.specs.Ordering.{match_ordering}
pub use Rattle.std.specs.declared.alloc.AllocError.{AllocError}
pub use Rattle.serde_json.proofs.Views.{get_member-put, get_member-put_other, Entry, members_view-insert_entry}
pub use Rattle.serde_json.proofs.Views.{view-lookup, view-Object}
pub use Rattle.serde_json.specs.Data.{Data, array, string, object, Members, no_members, member, put, null, boolean}
pub use Rattle.serde_json.specs.Data.{number}
pub use Rattle.serde_json.specs.Find.{get, get_member, as_null, as_object}
pub use Rattle.serde_json.specs.View.{view, members_view}
pub use Rattle.serde_json.specs.declared.value.Value.{Value, the_lemmas, Object}
pub use Rattle.json_patch_document.specs.ChangeComputed.{without}
pub use Rattle.json_patch_document.specs.Document.{Segment, child, IsDocument, key, AreMembers, sight_of}
pub use Rattle.json_patch_document.specs.Sight.{Sight}
pub use Rattle.std.proofs.lemmas.List.{map-append}
pub use Rattle.std.specs.Bool.{⊤}
pub use Rattle.json_patch_merge.specs.Filled.{IsFilled, IsFilledMember, by_key, stays, left, fills, Fills, FillsAt}
pub use Rattle.json_patch_merge.specs.Filled.{LogsMember, IsPrunedMember, ArePruned, with_member, former_value}
pub use Rattle.json_patch_merge.specs.Filled.{restore_members, members_before, Prunes, RemovesNothing, RemoveNothing}
pub use Rattle.json_patch_merge.specs.Merged.{IsMerged, IsMergedMember, goes, merges, replaces}
pub use Rattle.json_patch_merge.specs.MergedComputed.{after_merge, members_after_merge, members_of}
pub use Rattle.json_patch_merge.specs.declared.merging.Before.{Absent, Filled, Replaced, fold-Before}
