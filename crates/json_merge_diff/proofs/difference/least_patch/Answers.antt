use Rattle.json_patch_merge.proofs.Common.{AreMembers, subst, refl, sym, Some, members_view, view}
use Rattle.json_patch_merge.proofs.MergeFills.{other_value}
use Rattle.json_merge_diff.proofs.Changes.{replaced_whole, changed_whole, olds_are, of_object}
use Rattle.json_merge_diff.proofs.Leading.{are_members}
use Rattle.json_merge_diff.proofs.difference.least_patch.Goals as goal

pub returns-in_default : goal.returns-in_default
returns-in_default c = replaced_whole _ _ _ (other_value c.args.to.now c.in_default.not-Object) c.in_ok-clone.ensures.cases c.requires.to

pub returns-in-Some : goal.returns-in-Some
returns-in-Some c =
    let ms = members_view c.unwrap_or-olds.result.now.entries in
    let from = olds_are c.as_object.result _ c.unwrap_or-olds.result (Some (view c.args.from.now)) c.as_object.ensures c.new-empty.ensures.empty c.unwrap_or-olds.ensures in
    let h = c.in_ok-changes.ensures (subst AreMembers (sym from) (are_members (view c.args.from.now) c.requires.from)) (of_object c.args.to.now c.in-Object.news c.in-Object.is c.requires.to) in
    changed_whole _ c.args.to.now _ c.in-Object.news c.in-Some.changes ms c.in-Object.is refl from (rw c.in-Some.is at h)
