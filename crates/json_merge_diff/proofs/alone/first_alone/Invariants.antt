use Rattle.std.proofs.Common.{option_map, unwrap_or, IfSome}
use Rattle.json_patch_document.specs.Document.{AreMembers, IsDocument}
use Rattle.serde_json.specs.Find.{get_member}
use Rattle.serde_json.specs.View.{members_view, view}
use Rattle.json_merge_diff.specs.Least.{IsOfFirst}
use Rattle.json_merge_diff.proofs.Walks.{Walks}
use Rattle.json_merge_diff.proofs.alone.first_alone.Given as goal

abbrev pub invariant-loop-name : goal.invariant-loop-name
invariant-loop-name l = AreMembers (members_view l.first.entries) → IfSome l.instead (λ v. IsDocument (view v.now)) → Walks (λ k o. IsOfFirst (unwrap_or (option_map (λ v. view v.now) l.instead)) (get_member k (members_view l.first.entries)) (get_member k (members_view l.second.entries)) o) (members_view l.first.entries) (members_view l.alone.entries) (members_view l.name-iterator)
