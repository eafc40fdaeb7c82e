use Rattle.json_patch_merge.proofs.Common.{view, members_view, AreMembers, IsDocument, IsPrunedMember, members_of}
use Rattle.json_patch_merge.proofs.MergeFills.{Passes}
use Rattle.json_patch_merge.proofs.merging.+prune.Given as goal

abbrev pub invariant-loop-name : goal.invariant-loop-name
invariant-loop-name l =
    AreMembers (members_view l.initial.members.entries) → IsDocument (view l.patch)
    → Passes IsPrunedMember (members_view l.initial.members.entries) (members_of (view l.patch)) (members_view l.members.entries) (members_view l.name-iterator)
