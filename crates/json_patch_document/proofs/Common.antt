-- The names that most proofs of this crate speak of.
pub use Rattle.std.proofs.Common.{◌≡◌, ℕ, List, [], ◌∷◌, Option, Some, option_map, refl, ap, rules, inl, inr, suc}
pub use Rattle.std.proofs.Common.{length, sym, ◌∙◌, subst, arith, ◌<◌, zero, None, ◌↔◌, ⊎_elim, Ordering, Less, Equal}
pub use Rattle.std.proofs.Common.{Greater, nat_cmp, is_eq, String, Global, ◌⊎◌, ◌≤◌, Bool, false, drop, true, bytes_eq}
pub use Rattle.std.proofs.Common.{IsTrue, IfSome, set, slice_index_or, cond, string_bytes, option_and_then}
pub use Rattle.std.proofs.lemmas.Bool.{cases_eq}
pub use Rattle.std.proofs.lemmas.Bool.Decides.{Decides-at, Decides-like}
pub use Rattle.std.proofs.lemmas.Grind.{common_steps}
pub use Rattle.std.proofs.lemmas.Slice.Eq.{bytes_eq-Decides}
pub use Rattle.std.specs.BTreeMap.{insert_entry, is_at}
pub use Rattle.std.specs.Cmp.Lexicographic.{slice_cmp}
pub use Rattle.std.specs.List.{AllByRecursion, insert}
pub use Rattle.std.specs.Map.{lookup, set_value, remove_entry, keys_of}
pub use Rattle.std.specs.Ordering.{match_ordering, ordering_reverse}
pub use Rattle.std.specs.String.{string_cmp}
pub use Rattle.serde_json.proofs.Views.{get_member-put, get_member-put_other, Entry, members_view-insert_entry}
pub use Rattle.serde_json.proofs.Views.{view-lookup}
pub use Rattle.serde_json.specs.Data.{Data, Items, array, item, string, object, Members, no_members, member, put, null}
pub use Rattle.serde_json.specs.Data.{no_items, boolean, number}
pub use Rattle.serde_json.specs.Events.{items_len}
pub use Rattle.serde_json.specs.Find.{get_member, get_item}
pub use Rattle.serde_json.specs.View.{view, items_view, members_view}
pub use Rattle.serde_json.specs.Written.{has_float, items_have_float, members_have_float}
pub use Rattle.serde_json.specs.declared.value.Value.{Value}
pub use Rattle.json_patch_document.specs.ChangeComputed.{set_child, remove_item, without, insert_item, set_item}
pub use Rattle.json_patch_document.specs.ChangeComputed.{segment_of}
pub use Rattle.json_patch_document.specs.Document.{Segment, child, IsDocument, key, place, AreMembers, IsBelowMembers}
pub use Rattle.json_patch_document.specs.Document.{AreDocuments, sight_of, look, sight, value_at}
pub use Rattle.json_patch_document.specs.SameComputed.{same, same_items, same_members}
pub use Rattle.json_patch_document.specs.Sight.{Sight}
