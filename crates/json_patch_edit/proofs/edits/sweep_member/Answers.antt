use Rattle.json_patch_edit.proofs.Common.{refl, sym, ◌∙◌, rules}
use Rattle.json_patch_edit.proofs.Exchanges.{sweeps_none, sweeps_mark, sweeps, stays}
use Rattle.json_patch_edit.proofs.edits.sweep_member.Goals as goal

pub returns-in_default-clause-makes : goal.returns-in_default-clause-makes
returns-in_default-clause-makes c = λ v. ((refl, sweeps_none c.args.name.now c.args.members.now.entries c.in_default.ensures.value), search rules, refl)

pub returns-then-is_mark-clause-makes : goal.returns-then-is_mark-clause-makes
returns-then-is_mark-clause-makes c = λ v. (
  (refl, sweeps_mark c.args.name.now c.args.members.now.entries c.in-Some.member.now c.in-Some.ensures.value (sym c.is_mark.ensures ∙ c.if-is_mark.true)),
  stays c.args.name.now c.args.members.now.entries c.in-Some.member.now _ c.in-Some.ensures.value (c.get_mut.follows.holds c.in-Some.member.now).0,
  refl,
)

pub returns-clause-makes : goal.returns-clause-makes
returns-clause-makes c = λ v.
    (sweeps c.args.name.now c.args.members.now.entries c.clear.new.value c.in-Some.member.now _ c.get_mut.ensures.ordered c.in-Some.ensures.value (sym c.is_mark.ensures ∙ c.if-is_mark.false) (c.get_mut.follows.holds c.clear.new.value).0 c.clear.ensures, tt)
