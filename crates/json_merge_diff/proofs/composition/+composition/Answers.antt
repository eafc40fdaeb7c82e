use Rattle.json_patch_merge.proofs.Common.{rules, refl}
use Rattle.json_patch_merge.proofs.MergeFills.{other_value}
use Rattle.json_merge_diff.specs.Composed.{IsComposedMember, first}
use Rattle.json_merge_diff.proofs.Walks.{starts, adds}
use Rattle.json_merge_diff.proofs.Changes.{told, next_named, of_object}
use Rattle.json_merge_diff.proofs.Both.{composed_other, composed_objects, resets_below, composed_at}
use Rattle.json_merge_diff.proofs.composition.+composition.Goals as goal

pub composed-returns-in_default : goal.composed-returns-in_default
composed-returns-in_default t c hf ht = composed_other _ _ _ (other_value c.args.then.now c.in_default.not-Object) c.in_ok-clone.ensures.cases ht

pub composed-returns-in-Some : goal.composed-returns-in-Some
composed-returns-in-Some t c hf ht =
    let h = c.in_ok-changes.ensures (of_object c.args.first.now c.in-Object-first.first_members c.in-Object-first.is hf) (of_object c.args.then.now c.in-Object.then_members c.in-Object.is ht) in
    composed_objects c.args.first.now c.args.then.now _ c.in-Object-first.first_members c.in-Object.then_members c.in-Some.changes c.in-Object-first.is c.in-Object.is refl (rw c.in-Some.is at h)

pub composed_members-loop-name-init : goal.composed_members-loop-name-init
composed_members-loop-name-init t c ho hn = starts (λ c. c) IsComposedMember first (λ c. first) _ _ _ _ (search rules) hn (c.in_ok-changes.ensures ho tt)

pub composed_members-returns-in_default : goal.composed_members-returns-in_default
composed_members-returns-in_default t c ho hn =
    let w = c.loop-name.invariant ho hn in
    let h = told (c.in-Some.name.now, c.in-Some.next.now) c.get.result c.as_str.result.now c.args.first_members.now.entries c.in-Some.ensures.steps w ho c.as_str.ensures.value c.get.ensures.value c.in_ok-value.ensures in
    resets_below _ _ _ _ _ h.0 (next_named (c.in-Some.name.now, c.in-Some.next.now) c.in-Some.ensures.steps w) (rw c.in_default.is at h.1)

pub composed_members-loop-name-preserved : goal.composed_members-loop-name-preserved
composed_members-loop-name-preserved t c ho hn =
    let w = c.loop-name.invariant ho hn in
    let h = told (c.in-Some.name.now, c.in-Some.next.now) c.get.result c.as_str.result.now c.args.first_members.now.entries c.in-Some.ensures.steps w ho c.as_str.ensures.value c.get.ensures.value c.in_ok-value.ensures in
    let is = rw c.in-Some-2.is at h.1 in
    adds (c.in-Some.name.now, c.in-Some.next.now) c.loop-name.changes.entries c.insert.new.self.entries c.in_ok-clone.field-0 c.in-Some-2.value c.in-Some.ensures.steps w (search rules) (search rules) (λ hq. (composed_at _ _ _ _ c.in-Some-2.value refl h.0 is).1) (λ here. (composed_at _ _ _ _ c.in-Some-2.value here h.0 is).0)
