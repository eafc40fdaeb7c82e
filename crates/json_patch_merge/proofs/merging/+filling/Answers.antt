use Rattle.json_patch_merge.proofs.Common.{◌≡◌, ◌≢◌, sight_of, string_bytes, rules, refl, sym, ap, ◌∙◌, view, Object}
use Rattle.json_patch_merge.proofs.Common.{the_lemmas, stays, left, by_key, Ok, Err, Sight, Absent, Replaced, Filled}
use Rattle.json_patch_merge.specs.declared.merging.Before.{the_lemmas as of_formers}
use Rattle.json_patch_merge.proofs.MergeFills.{starts, steps_at, changes_nothing, next_document, null_here, other_here}
use Rattle.json_patch_merge.proofs.MergeFills.{other_value, filled_whole, of_objects, fills_found, fills_missing, fills_back}
use Rattle.json_patch_merge.proofs.MergeFills.{fills_step, logs_nothing}
use Rattle.json_patch_merge.proofs.merging.+filling.Goals.{fill-else-not-is_null-via-then-not-is_null+else-is_err}
use Rattle.json_patch_merge.proofs.merging.+filling.Goals.{fill-else-not-is_null-via-else-not-is_null}
use Rattle.json_patch_merge.proofs.merging.+filling.Goals.{fill_member-in-Object+in_default-member}
use Rattle.json_patch_merge.proofs.merging.+filling.Goals.{fill_member-in_default-change}
use Rattle.json_patch_merge.proofs.merging.+filling.Goals as goal

pub fill-loop-name-init : goal.fill-loop-name-init
fill-loop-name-init t c hs hp = (starts (λ was. stays) _ _ _ (search rules) hs hp, search rules)

pub fill-loop-name-preserved : goal.fill-loop-name-preserved
fill-loop-name-preserved t c hs hp =
    let h = c.loop-name.invariant hs hp in
    let q = view c.in-Some.change.now in
    let hq = next_document _ _ (c.in-Some.name.now, c.in-Some.change.now) c.in-Some.ensures.steps h.0.members in
    elim c.else-not-is_null.branch [
      | fill-else-not-is_null-via-then-not-is_null+else-is_err w ↦ rw (w.members-is, w.log-is) (
        steps_at (c.in-Some.name.now, c.in-Some.change.now) _ c.in-Some.ensures.steps refl h.0 (λ _. fills_step _ _ _ _ _ _ q w.fill_member.ensures h.0.document hq (search rules) (other_here q _ c.is_null.ensures w.if-not-is_null.true)),
        fills_back _ _ _ _ _ _ q w.fill_member.ensures h.0.document hq ∙ h.1,
      )
      | fill-else-not-is_null-via-else-not-is_null w ↦ rw (w.members-is, w.log-is) (
        steps_at (c.in-Some.name.now, c.in-Some.change.now) _ c.in-Some.ensures.steps refl h.0 (λ _. (_, changes_nothing _ _ _ h.0.document refl, rw (null_here q _ c.is_null.ensures w.if-not-is_null.false) left)),
        h.1,
      )
    ]

pub fill-returns : goal.fill-returns
fill-returns t c hs hp =
    let h = c.loop-name.invariant hs hp in (by_key refl refl (λ k. h.0.passed k (search rules)), h.0.document, search (rules, of_formers))

pub fill_member-returns-in_default : goal.fill_member-returns-in_default
fill_member-returns-in_default t c = (c.as_str-in_default.result, Absent, c.as_str-in_default.ensures.value, search rules, fills_missing (string_bytes c.args.name.now) c.args.members.now.entries c.insert.new.self.entries c.in_ok-clone.field-0 c.in_ok-clone-2.field-0 (view c.args.change.now) (rw c.as_str.ensures.value at c.in_default.ensures.value) (search rules) (search rules) (search rules))

pub fill_member-returns-in_err-fill : goal.fill_member-returns-in_err-fill
fill_member-returns-in_err-fill t c = logs_nothing _ _ _ _ _ (search rules) (search rules) (λ e. fills_found (Err e) _ c.as_str.result.now c.args.members.now.entries _ c.in-Some.member.now _ (view c.args.change.now) c.as_str.ensures.value c.get_mut.ensures.ordered c.in-Some.ensures.value (c.get_mut.follows.holds _).0 (λ hd hp. of_objects (Err e) _ _ _ _ c.fill.new.members c.in-Object.changes (c.in-Object-member.is ∙ ap Object (sym c.in-Object-member.within-is)) (search (rules, the_lemmas)) c.in-Object.is c.in_err-fill.ensures hd hp))

pub fill_member-returns-in-Object-member : goal.fill_member-returns-in-Object-member
fill_member-returns-in-Object-member t c =
    (c.as_str-in-Object-member.result, Filled c.in_ok-fill.field-0, c.as_str-in-Object-member.ensures.value, search rules, fills_found (Ok (Filled c.in_ok-fill.field-0)) _ c.as_str.result.now c.args.members.now.entries _ c.in-Some.member.now _ (view c.args.change.now) c.as_str.ensures.value c.get_mut.ensures.ordered c.in-Some.ensures.value (c.get_mut.follows.holds _).0 (λ hd hp. of_objects (Ok (Filled c.in_ok-fill.field-0)) _ _ _ _ c.fill.new.members c.in-Object.changes (c.in-Object-member.is ∙ ap Object (sym c.in-Object-member.within-is)) (search (rules, the_lemmas)) c.in-Object.is c.in_ok-fill.ensures hd hp))

pub fill_member-returns-in_err-clone-3 : goal.fill_member-returns-in_err-clone-3
fill_member-returns-in_err-clone-3 t c = logs_nothing _ _ _ _ _ (search rules) (search rules) (λ e. fills_found (Err e) _ c.as_str.result.now c.args.members.now.entries _ c.in-Some.member.now c.in-Some.member.now (view c.args.change.now) c.as_str.ensures.value c.get_mut.ensures.ordered c.in-Some.ensures.value (c.get_mut.follows.holds c.in-Some.member.now).0 (λ hd hp. refl))

pub fill_member-returns : goal.fill_member-returns
fill_member-returns t c =
    let other : sight_of (view c.args.change.now) ≡ Sight.object → sight_of (view c.in-Some.member.now) ≢ Sight.object = elim c.match-change.branch [
      | fill_member-in-Object+in_default-member w ↦ λ named. other_value c.in-Some.member.now w.in_default-member.not-Object
      | fill_member-in_default-change w ↦ λ named. absurd (other_value c.args.change.now w.in_default-change.not-Object named)
    ] in
    (c.as_str-2.result, Replaced c.replace.result, c.as_str-2.ensures.value, search rules, fills_found (Ok (Replaced c.replace.result)) _ c.as_str.result.now c.args.members.now.entries _ c.in-Some.member.now c.replace.new.dest (view c.args.change.now) c.as_str.ensures.value c.get_mut.ensures.ordered c.in-Some.ensures.value (c.get_mut.follows.holds c.replace.new.dest).0 (λ hd. filled_whole c.in-Some.member.now c.args.change.now c.replace.new.dest c.replace.result other (ap view c.replace.ensures.after ∙ c.in_ok-clone-3.ensures.cases) c.replace.ensures.value))
