use Rattle.json_patch_merge.proofs.Common.{◌≡◌, members_view, AreMembers, IsFilledMember, members_before}
use Rattle.json_patch_merge.proofs.MergeFills.{Passes}
use Rattle.json_patch_merge.proofs.merging.+filling.Given as goal

abbrev pub invariant-fill-loop-name : goal.invariant-fill-loop-name
invariant-fill-loop-name l =
    AreMembers (members_view l.initial.members.entries) → AreMembers (members_view l.changes.entries)
    → Passes IsFilledMember (members_view l.initial.members.entries) (members_view l.changes.entries) (members_view l.members.entries) (members_view l.name-iterator)
    × (members_before l.log.items (members_view l.members.entries) ≡ members_view l.initial.members.entries)
