use Rattle.json_patch_document.specs.Document.{AreMembers}
use Rattle.serde_json.specs.Find.{get_member}
use Rattle.serde_json.specs.View.{members_view}
use Rattle.json_merge_diff.specs.Least.{IsLeastMember}
use Rattle.json_merge_diff.proofs.Walks.{Walks}
use Rattle.json_merge_diff.proofs.difference.+difference.Given as goal

abbrev pub invariant-change_members-loop-name : goal.invariant-change_members-loop-name
invariant-change_members-loop-name l = AreMembers (members_view l.olds.entries) → AreMembers (members_view l.news.entries) → Walks (λ k o. IsLeastMember (get_member k (members_view l.olds.entries)) (get_member k (members_view l.news.entries)) o) (members_view l.news.entries) (members_view l.changes.entries) (members_view l.name-iterator)
