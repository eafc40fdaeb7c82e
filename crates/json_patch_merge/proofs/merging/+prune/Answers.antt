use Rattle.json_patch_merge.proofs.Common.{rules, refl, sym, ap, ◌∙◌, view, members_view, Object, the_lemmas, view-Object}
use Rattle.json_patch_merge.proofs.MergeFills.{starts, steps_at, changes_nothing, changes_written, changes_removed, null_here}
use Rattle.json_patch_merge.proofs.MergeFills.{other_here, atom_here, prunes_atom, named_members, pruned_object, pruned_other}
use Rattle.json_patch_merge.proofs.MergeFills.{other_value, prunes_unnamed, prunes_null, prunes_found, prunes_missing}
use Rattle.json_patch_document.proofs.Writes.{found_at, found_document}
use Rattle.json_patch_merge.proofs.merging.+prune.Goals as goal

pub loop-name-init : goal.loop-name-init
loop-name-init t c hm hp =
    starts prunes_unnamed _ _ _ (ap members_view c.into_iter-name-iterator.ensures.into_iter_gives.0 ∙ sym (named_members _ _ c.in-Object.is)) hm (search (rules, view-Object, named_members))

pub loop-name-preserved-then-is_null : goal.loop-name-preserved-then-is_null
loop-name-preserved-then-is_null t c hm hp =
    let h = c.loop-name.invariant hm hp in
    let q = view c.in-Some.change.now in
    steps_at (c.in-Some.name.now, c.in-Some.change.now) c.as_str.result.now c.in-Some.ensures.steps c.as_str.ensures.value h
    (λ hq. (_, changes_removed c.as_str.result.now c.loop-name.members.entries _ c.remove.ensures.entries h.document, prunes_null _ q (null_here q _ c.is_null.ensures c.if-is_null.true)))

pub loop-name-preserved-in-Some-get_mut : goal.loop-name-preserved-in-Some-get_mut
loop-name-preserved-in-Some-get_mut t c hm hp =
    let h = c.loop-name.invariant hm hp in
    let q = view c.in-Some.change.now in
    let name = c.as_str-then-is_object.result.now in
    steps_at (c.in-Some.name.now, c.in-Some.change.now) name c.in-Some.ensures.steps c.as_str-then-is_object.ensures.value h
    (λ hq. (let r = c.prune.ensures (found_document name c.loop-name.members.entries c.in-Some-get_mut.member.now c.in-Some-get_mut.ensures.value h.document) hq in (
      _,
      changes_written name c.loop-name.members.entries _ c.in-Some-get_mut.member.now c.prune.new.target c.get_mut.ensures.ordered c.in-Some-get_mut.ensures.value (c.get_mut.follows.holds c.prune.new.target).0 h.document r.0,
      prunes_found q _ _ _ (found_at name c.loop-name.members.entries _ c.in-Some-get_mut.ensures.value) (other_here q _ c.is_null.ensures c.if-is_null.false) r.1,
    )))

pub loop-name-preserved-in_default-get_mut : goal.loop-name-preserved-in_default-get_mut
loop-name-preserved-in_default-get_mut t c hm hp =
    let h = c.loop-name.invariant hm hp in
    let q = view c.in-Some.change.now in
    let name = c.as_str-then-is_object.result.now in
    steps_at (c.in-Some.name.now, c.in-Some.change.now) name c.in-Some.ensures.steps c.as_str-then-is_object.ensures.value h
    (λ hq. (
      _,
      changes_nothing name _ _ h.document (ap (λ m. members_view m.entries) c.get_mut.follows.holds-at-none),
      prunes_missing q _ (found_at name c.loop-name.members.entries _ c.in_default-get_mut.ensures.value) (other_here q _ c.is_null.ensures c.if-is_null.false),
    ))

pub loop-name-preserved : goal.loop-name-preserved
loop-name-preserved t c hm hp =
    let h = c.loop-name.invariant hm hp in
    let q = view c.in-Some.change.now in
    steps_at (c.in-Some.name.now, c.in-Some.change.now) _ c.in-Some.ensures.steps refl h
    (λ hq. (_, changes_nothing _ _ _ h.document refl, prunes_atom q _ (other_here q _ c.is_null.ensures c.if-is_null.false) (atom_here q _ c.is_object.ensures c.if-is_object.false)))

pub returns : goal.returns
returns t c hm hp =
    pruned_object _ _ _ _ c.loop-name.members c.in-Object.changes (c.in-Object-target.is ∙ ap Object (sym c.in-Object-target.members-is)) (search (rules, the_lemmas)) c.in-Object.is
    (λ hs hq. rw (ap members_view c.in-None.ensures.steps.0) at (c.loop-name.invariant hs hq)) hm hp

pub returns-in_default : goal.returns-in_default
returns-in_default t c hm hp = (hm, λ d. pruned_other (λ named. absurd (other_value c.args.patch.now c.in_default.not-Object named)))
