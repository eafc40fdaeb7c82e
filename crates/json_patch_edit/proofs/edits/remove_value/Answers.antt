use Rattle.json_patch_edit.proofs.Common.{refl}
use Rattle.json_patch_edit.proofs.Unmarked.{removes_nothing, removes_value}
use Rattle.json_patch_edit.proofs.edits.remove_value.Goals as goal

pub returns-in_default-clause-makes : goal.returns-in_default-clause-makes
returns-in_default-clause-makes c =
    let none = removes_nothing c.args.name.now c.args.members.now.entries _ c.in_default.ensures.value c.in_default.ensures.entries in
    ((refl, none.0), none.1, refl)

pub returns-clause-makes : goal.returns-clause-makes
returns-clause-makes c = removes_value c.args.name.now c.args.members.now.entries _ c.in-Some.member c.requires c.in-Some.ensures.value c.in-Some.ensures.entries
