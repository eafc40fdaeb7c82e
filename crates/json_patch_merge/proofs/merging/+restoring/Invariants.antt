use Rattle.json_patch_merge.proofs.Common.{◌≡◌, ◌≤◌, ◌*◌, members_view, members_before}
use Rattle.json_patch_merge.proofs.MergeFills.{weight, weights}
use Rattle.json_patch_merge.proofs.merging.+restoring.Given as goal

abbrev pub invariant-restore-loop-name : goal.invariant-restore-loop-name
invariant-restore-loop-name l = record {
  smaller : weights l.log.items ≤ weights l.initial.log.items;
  back : members_before l.log.items (members_view l.members.entries) ≡ members_before l.initial.log.items (members_view l.initial.members.entries);
}

abbrev pub decreases-restore-loop-name : goal.decreases-restore-loop-name
decreases-restore-loop-name l = goal.left-restore-loop-name l

abbrev pub decreases-restore : goal.decreases-restore
decreases-restore l = 2 * weights l.log.items

abbrev pub decreases-restore_member : goal.decreases-restore_member
decreases-restore_member l = 2 * weight l.former
