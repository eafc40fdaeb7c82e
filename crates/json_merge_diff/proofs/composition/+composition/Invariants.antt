use Rattle.json_patch_document.specs.Document.{AreMembers}
use Rattle.serde_json.specs.Find.{get_member}
use Rattle.serde_json.specs.View.{members_view}
use Rattle.json_merge_diff.specs.Composed.{IsComposedMember}
use Rattle.json_merge_diff.proofs.Walks.{Walks}
use Rattle.json_merge_diff.proofs.composition.+composition.Given as goal

abbrev pub invariant-composed_members-loop-name : goal.invariant-composed_members-loop-name
invariant-composed_members-loop-name l = AreMembers (members_view l.first_members.entries) → AreMembers (members_view l.then_members.entries) → Walks (λ k o. IsComposedMember (get_member k (members_view l.first_members.entries)) (get_member k (members_view l.then_members.entries)) o) (members_view l.then_members.entries) (members_view l.changes.entries) (members_view l.name-iterator)
