use Rattle.json_patch_merge.proofs.Common.{◌≡◌, suc, rules, arith, sym, ap, ◌∙◌, Object, the_lemmas}
use Rattle.json_patch_merge.specs.declared.merging.Before.{the_lemmas as of_formers}
use Rattle.json_patch_merge.proofs.MergeFills.{before_last, weights_last, puts_back, puts_nothing_back, takes_out}
use Rattle.json_patch_merge.proofs.MergeFills.{restored_object, weight, weights}
use Rattle.json_patch_merge.proofs.merging.+restoring.Goals as goal

pub restore-restore_member-requires : goal.restore-restore_member-requires
restore-restore_member-requires t c = search (rules, weights, weight, weights_last)

pub restore-loop-name-preserved : goal.restore-loop-name-preserved
restore-loop-name-preserved t c = search (rules, weights, weight, weights_last, before_last)

pub restore_member-returns-in-Absent : goal.restore_member-returns-in-Absent
restore_member-returns-in-Absent t c = takes_out c.args.name.now c.args.members.now.entries _ c.args.former c.remove.ensures.entries (λ o. search (rules, c.in-Absent.is, of_formers))

pub restore_member-returns-in-Some : goal.restore_member-returns-in-Some
restore_member-returns-in-Some t c = puts_back c.args.name.now c.args.members.now.entries _ c.args.former c.in-Some.member.now c.in-Replaced.value c.get_mut.ensures.ordered c.in-Some.ensures.value (c.get_mut.follows.holds c.in-Replaced.value).0 (search (rules, c.in-Replaced.is, of_formers))

pub restore_member-returns-in_default : goal.restore_member-returns-in_default
restore_member-returns-in_default t c = puts_nothing_back c.args.name.now c.args.members.now.entries _ c.args.former c.in_default.ensures.value (ap (λ m. m.entries) c.get_mut.follows.holds-at-none) (search (rules, c.in-Replaced.is, of_formers))

pub restore_member-restore-requires : goal.restore_member-restore-requires
restore_member-restore-requires t c =
    let e : weight c.args.former ≡ suc (weights c.in-Filled.log.items) = search (rules, c.in-Filled.is, of_formers) in
    (omega (arith, e), tt)

pub restore_member-returns-in-Object : goal.restore_member-returns-in-Object
restore_member-returns-in-Object t c =
    puts_back c.args.name.now c.args.members.now.entries _ c.args.former c.in-Some-get_mut.member.now _ c.get_mut-in-Filled.ensures.ordered c.in-Some-get_mut.ensures.value (c.get_mut-in-Filled.follows.holds _).0
    (rw c.in-Filled.is (restored_object c.in-Filled.log _ _ _ c.restore.new.members (c.in-Object.is ∙ ap Object (sym c.in-Object.inner-is)) (search (rules, the_lemmas)) c.restore.ensures))

pub restore_member-returns-in_default-get_mut : goal.restore_member-returns-in_default-get_mut
restore_member-returns-in_default-get_mut t c = puts_nothing_back c.args.name.now c.args.members.now.entries _ c.args.former c.in_default-get_mut.ensures.value (ap (λ m. m.entries) c.get_mut-in-Filled.follows.holds-at-none) (search (rules, c.in-Filled.is, of_formers))

pub restore_member-returns-in_default-member : goal.restore_member-returns-in_default-member
restore_member-returns-in_default-member t c =
    puts_back c.args.name.now c.args.members.now.entries _ c.args.former c.in-Some-get_mut.member.now _ c.get_mut-in-Filled.ensures.ordered c.in-Some-get_mut.ensures.value (c.get_mut-in-Filled.follows.holds _).0
    (rw c.in-Filled.is (search (rules, the_lemmas, of_formers, c.in_default-member.not-Object)))
