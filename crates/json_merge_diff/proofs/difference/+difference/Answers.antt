use Rattle.json_patch_merge.proofs.Common.{rules, null, refl, sym, ◌≡◌, ◌∙◌, members_view, view}
use Rattle.serde_json.specs.declared.value.Value.{Null, the_lemmas}
use Rattle.json_merge_diff.proofs.Walks.{starts, adds, goes_on}
use Rattle.json_merge_diff.specs.Least.{IsLeastMember, keeps, goes}
use Rattle.json_merge_diff.proofs.Changes.{told, keeps_it, changes_it, wants_above, next_named}
use Rattle.json_merge_diff.proofs.Changes.{olds_are, found_members, members_were, of_object, wants_here, nothing_here, another_here, changes_here, an_object_was, no_object_was}
use Rattle.std.proofs.Common.{option_map}
use Rattle.json_merge_diff.proofs.difference.+difference.Goals.{change_at-else-is_some-via-then-is_some+else-is_empty}
use Rattle.json_merge_diff.proofs.difference.+difference.Goals.{change_at-else-is_some-via-else-is_some}
use Rattle.json_merge_diff.proofs.difference.+difference.Goals as goal

null_is : view Null ≡ null
null_is = search (rules, the_lemmas)

pub change_members-loop-name-init : goal.change_members-loop-name-init
change_members-loop-name-init t c ho hn = starts (λ c. view Null) IsLeastMember keeps (λ c. rw null_is goes) _ _ _ _ (search rules) hn (c.in_ok-changes.ensures ho (rw null_is tt))

pub change_members-loop-name-preserved-in-Nothing : goal.change_members-loop-name-preserved-in-Nothing
change_members-loop-name-preserved-in-Nothing t c ho hn =
    let w = c.loop-name.invariant ho hn in
    let h = told (c.in-Some.name.now, c.in-Some.new.now) c.get.result c.as_str.result.now c.args.olds.now.entries c.in-Some.ensures.steps w ho c.as_str.ensures.value c.get.ensures.value c.in_ok-change_at.ensures in
    goes_on (c.in-Some.name.now, c.in-Some.new.now) c.in-Some.ensures.steps w (λ here. keeps_it _ _ _ here (sym h.0 ∙ (rw c.in-Nothing.is at h.1)))

pub change_members-loop-name-preserved : goal.change_members-loop-name-preserved
change_members-loop-name-preserved t c ho hn =
    let w = c.loop-name.invariant ho hn in
    let h = told (c.in-Some.name.now, c.in-Some.new.now) c.get.result c.as_str.result.now c.args.olds.now.entries c.in-Some.ensures.steps w ho c.as_str.ensures.value c.get.ensures.value c.in_ok-change_at.ensures in
    let is = rw c.in-By.is at h.1 in
    adds (c.in-Some.name.now, c.in-Some.new.now) c.loop-name.changes.entries c.insert.new.self.entries c.in_ok-clone-in-By.field-0 c.in-By.value c.in-Some.ensures.steps w (search rules) (search rules) (λ hq. is.1) (λ here. changes_it _ _ _ _ _ here h.0 is.0)

pub change_members-returns-in-Impossible : goal.change_members-returns-in-Impossible
change_members-returns-in-Impossible t c ho hn =
    let w = c.loop-name.invariant ho hn in
    let h = told (c.in-Some.name.now, c.in-Some.new.now) c.get.result c.as_str.result.now c.args.olds.now.entries c.in-Some.ensures.steps w ho c.as_str.ensures.value c.get.ensures.value c.in_ok-change_at.ensures in
    wants_above _ _ _ _ _ h.0 (next_named (c.in-Some.name.now, c.in-Some.new.now) c.in-Some.ensures.steps w) (rw c.in-Impossible.is at h.1)

pub change_at-returns-in_default-2 : goal.change_at-returns-in_default-2
change_at-returns-in_default-2 t c ho hn =
    let was = option_map (λ v. view v.now) c.args.old in
    let ms = members_view c.unwrap_or.result.now.entries in
    let from = olds_are c.and_then-olds.result _ c.unwrap_or.result was (found_members c.args.old c.and_then-olds.result c.and_then-olds.ensures) c.new-empty.ensures.empty c.unwrap_or.ensures in
    let h = c.in_ok-changes.ensures (members_were c.args.old ms from ho) (of_object c.args.new.now c.in-Object.news c.in-Object.is hn) in
    wants_here was c.args.new.now c.in-Object.news ms c.in-Object.is from (rw c.in_default-2.is at h)

pub change_at-returns-then-is_empty : goal.change_at-returns-then-is_empty
change_at-returns-then-is_empty t c ho hn =
    let was = option_map (λ v. view v.now) c.args.old in
    let ms = members_view c.unwrap_or.result.now.entries in
    let found = found_members c.args.old c.and_then-olds.result c.and_then-olds.ensures in
    let from = olds_are c.and_then-olds.result _ c.unwrap_or.result was found c.new-empty.ensures.empty c.unwrap_or.ensures in
    let hm = members_were c.args.old ms from ho in
    let hs = of_object c.args.new.now c.in-Object.news c.in-Object.is hn in
    let h = c.in_ok-changes.ensures hm hs in
    nothing_here was c.args.new.now c.in-Object.news c.in-Some.changes ms c.in-Object.is from (an_object_was c.and_then-olds.result was c.is_some.result found c.is_some.ensures c.if-is_some.true) hm hs (rw c.in-Some.is at h) (c.is_empty.ensures.0 c.if-is_empty.true)

pub change_at-returns : goal.change_at-returns
change_at-returns t c ho hn =
    let was = option_map (λ v. view v.now) c.args.old in
    let ms = members_view c.unwrap_or.result.now.entries in
    let found = found_members c.args.old c.and_then-olds.result c.and_then-olds.ensures in
    let from = olds_are c.and_then-olds.result _ c.unwrap_or.result was found c.new-empty.ensures.empty c.unwrap_or.ensures in
    let h = rw c.in-Some.is at (c.in_ok-changes.ensures (members_were c.args.old ms from ho) (of_object c.args.new.now c.in-Object.news c.in-Object.is hn)) in
    changes_here was c.args.new.now _ c.in-Object.news c.in-Some.changes ms c.in-Object.is refl from h
    (elim c.else-is_some.branch [
      | change_at-else-is_some-via-then-is_some+else-is_empty w ↦ another_here was c.in-Object.news c.in-Some.changes ms from h (λ none. let e = w.is_empty.ensures.1 none in let f = w.if-is_empty.false in cc)
      | change_at-else-is_some-via-else-is_some w ↦ no_object_was c.and_then-olds.result was c.is_some.result _ found c.is_some.ensures w.if-is_some.false
    ])
