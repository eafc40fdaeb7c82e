use Rattle.json_patch_edit.proofs.Common.{refl, sym, ◌∙◌, view}
use Rattle.json_patch_edit.proofs.Exchanges.{removes_none, removes_other, removes}
use Rattle.json_patch_edit.proofs.edits.remove_member.Goals as goal

pub returns-in_default-clause-makes : goal.returns-in_default-clause-makes
returns-in_default-clause-makes c = ((refl, removes_none c.args.name.now c.args.members.now.entries (view c.args.value.now) c.args.edit c.requires c.in_default.ensures.value), refl, refl)

pub returns-then-not-takes_away-clause-makes : goal.returns-then-not-takes_away-clause-makes
returns-then-not-takes_away-clause-makes c = ((refl, removes_other c.args.name.now c.args.members.now.entries (view c.args.value.now) c.args.edit c.in-Some.member.now c.requires c.in-Some.ensures.value (sym c.takes_away.ensures ∙ c.if-not-takes_away.true)), refl, refl)

pub returns-clause-makes : goal.returns-clause-makes
returns-clause-makes c = removes c.args.name.now c.args.members.now.entries (view c.args.value.now) c.args.edit c.in-Some.member.now c.in-Some-remove.member _ c.requires c.in-Some.ensures.value c.in-Some-remove.ensures.value (sym c.takes_away.ensures ∙ c.if-not-takes_away.false) c.in-Some-remove.ensures.entries
