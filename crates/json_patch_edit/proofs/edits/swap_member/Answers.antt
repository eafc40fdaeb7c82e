use Rattle.json_patch_edit.proofs.Common.{refl, sym, ◌∙◌, view, rules}
use Rattle.json_patch_edit.proofs.Exchanges.{swaps_none, swaps_other, swaps, stays}
use Rattle.json_patch_edit.proofs.edits.swap_member.Goals as goal

pub returns-in_default-clause-makes : goal.returns-in_default-clause-makes
returns-in_default-clause-makes c = ((refl, swaps_none c.args.name.now c.args.members.now.entries c.args.edit (view c.args.value.now) c.requires c.in_default.ensures.value), search rules, refl)

pub returns-then-not-may_swap-clause-makes : goal.returns-then-not-may_swap-clause-makes
returns-then-not-may_swap-clause-makes c = (
  (refl, swaps_other c.args.name.now c.args.members.now.entries c.args.edit (view c.args.value.now) c.in-Some.member.now c.requires c.in-Some.ensures.value (sym c.may_swap.ensures ∙ c.if-not-may_swap.true)),
  stays c.args.name.now c.args.members.now.entries c.in-Some.member.now _ c.in-Some.ensures.value (c.get_mut.follows.holds c.in-Some.member.now).0,
  refl,
)

pub returns-clause-makes : goal.returns-clause-makes
returns-clause-makes c =
    rw (c.swapped_by.ensures, c.swap.ensures.y_after)
    (swaps c.args.name.now c.args.members.now.entries c.args.edit c.args.value.now c.swap.new.x c.in-Some.member.now _ c.requires c.get_mut.ensures.ordered c.in-Some.ensures.value (sym c.may_swap.ensures ∙ c.if-not-may_swap.false) (c.get_mut.follows.holds c.swap.new.x).0 c.swap.ensures.x_after)
