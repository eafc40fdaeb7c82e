use Rattle.std.proofs.Common.{◌≡◌, ◌∙◌, None, Some, ap, arith, rules, refl, subst, sym}
use Rattle.json.specs.Find.{get_member}
use Rattle.json.specs.Json.{Json, object}
use Rattle.json.specs.Tree.{depth}
use Rattle.json.specs.Value.{value_view, members_view}
use Rattle.json.specs.declared.value.Value.{the_lemmas}
use Rattle.json_merge_text.specs.Merging.{IsChanged, MergesInto, MergesMember}
use Rattle.json_merge_text.specs.Stands.{MayStandAt, StandsAt}
use Rattle.json_merge_text.proofs.Becoming.{becomes_as, becomes_kept, becomes_then}
use Rattle.json_merge_text.proofs.Built.{added, all_merged, found_one, left_out, left_same, object_merged, object_replaced, other_value, pair_depth, removed, replaced}
use Rattle.json_merge_text.proofs.Possible.{after_adding, after_replacing, first_up_to, may_as, may_stand, member_there, merged, named, no_object_of, none_was, object_of, passed, shape_stands, some_was, stands_as}
use Rattle.json_pieces.specs.Whole.{text_of}
use Rattle.json_merge_text.proofs.merging.+merging.Goals as goal

-- ---- into what stands there

pub merge_into-merge_members-requires : goal.merge_into-merge_members-requires
merge_into-merge_members-requires t c =
    let named : value_view c.args.change.now ≡ object (members_view c.in-Object.changes.items) = ap value_view c.in-Object.is ∙ search (rules, the_lemmas) in
    let patch = text_of c.args.texts.now.patch in
    let text = text_of c.args.texts.now.document in
    let P = c.args.path.now in
    let (i, stands) = c.requires.stands in
    let (is, there) = object_of i c.args.here c.in-Object-here.is (c.requires.shape i stands) in (
      omega (arith, ap depth named),
      (
        c.requires.texts,
        (
          stands_as patch patch P (value_view c.args.change.now) (object (members_view c.in-Object.changes.items)) refl named c.requires.named,
          (is, stands_as text text P i (object is) refl there stands),
        ),
      ),
    )

pub merge_into-returns-in-Object-here : goal.merge_into-returns-in-Object-here
merge_into-returns-in-Object-here t c =
    let text = text_of c.args.texts.now.document in
    let P = c.args.path.now in
    becomes_as c.args.texts.now c.merge_members.new.texts _ _ c.merge_members.result
    (λ made i stands. let (is, there) = object_of i c.args.here c.in-Object-here.is (c.requires.shape i stands) in
    object_merged (text_of c.args.texts.now.patch) P i (value_view c.args.change.now) is (members_view c.in-Object.changes.items) text (text_of c.merge_members.new.texts.document)
    (ap value_view c.in-Object.is ∙ search (rules, the_lemmas)) there (made is (stands_as text text P i (object is) refl there stands)))
    c.merge_members.ensures

pub merge_into-prune-requires : goal.merge_into-prune-requires
merge_into-prune-requires t c =
    let is : value_view c.args.change.now ≡ object (members_view c.in-Object.changes.items) = ap value_view c.in-Object.is ∙ search (rules, the_lemmas) in
    let patch = text_of c.args.texts.now.patch in
    let mid = text_of c.replace.new.self.document in
    let P = c.args.path.now in record {
      texts = c.in_ok-replace.ensures.texts;
      named = stands_as patch (text_of c.replace.new.self.patch) P (value_view c.args.change.now) (object (members_view c.in-Object.changes.items)) c.in_ok-replace.ensures.same is c.requires.named;
      stands = stands_as mid mid P (value_view c.args.change.now) (object (members_view c.in-Object.changes.items)) refl is
          (after_replacing (text_of c.args.texts.now.document) patch mid P c.requires.stands.0 (value_view c.args.change.now) c.requires.stands.1 c.requires.named c.in_ok-replace.ensures.made);
    }

pub merge_into-returns-in-Object : goal.merge_into-returns-in-Object
merge_into-returns-in-Object t c =
    becomes_then c.args.texts.now c.replace.new.self c.prune.new.texts _ _ _ c.prune.result c.in_ok-replace.ensures
    (λ put more i stands. object_replaced (text_of c.args.texts.now.patch) c.args.path.now i (value_view c.args.change.now) (members_view c.in-Object.changes.items)
    (text_of c.args.texts.now.document) (text_of c.replace.new.self.document) (text_of c.prune.new.texts.document)
    (ap value_view c.in-Object.is ∙ search (rules, the_lemmas)) (no_object_of i c.args.here c.in_default-here.not-Object (c.requires.shape i stands)) put more)
    c.prune.ensures

pub merge_into-returns-then-branch : goal.merge_into-returns-then-branch
merge_into-returns-then-branch t c =
    let kept = c.in_ok-has_same.ensures.kept in record {
      texts = kept.texts;
      same = kept.same;
      made = λ i stands. subst (λ u. IsChanged (text_of c.args.texts.now.document) u (MergesInto (text_of c.args.texts.now.patch) c.args.path.now i (value_view c.args.change.now))) (sym kept.made)
          (left_same (text_of c.args.texts.now.patch) c.args.path.now i (value_view c.args.change.now) (text_of c.args.texts.now.document)
          (other_value c.args.change.now c.in_default.not-Object) ((c.in_ok-has_same.ensures.same i stands).0 (search rules)));
    }

pub merge_into-replace-requires-2 : goal.merge_into-replace-requires-2
merge_into-replace-requires-2 t c =
    let kept = c.in_ok-has_same.ensures.kept in
    let mid = c.has_same.new.self in
    let P = c.args.path.now in
    let q = value_view c.args.change.now in
    let (i, stands) = c.requires.stands in record {
      texts = kept.texts;
      named = (q, stands_as (text_of c.args.texts.now.patch) (text_of mid.patch) P q q kept.same refl c.requires.named);
      stands = (i, stands_as (text_of c.args.texts.now.document) (text_of mid.document) P i i kept.made refl stands);
    }

pub merge_into-returns : goal.merge_into-returns
merge_into-returns t c =
    let kept = c.in_ok-has_same.ensures.kept in
    let mid = c.has_same.new.self in
    let P = c.args.path.now in
    becomes_kept c.args.texts.now mid c.replace-2.new.self _ c.replace-2.result kept
    (becomes_as mid c.replace-2.new.self _ _ c.replace-2.result
    (λ put i stands. replaced (text_of mid.patch) P i (value_view c.args.change.now) (text_of mid.document) (text_of c.replace-2.new.self.document)
    (other_value c.args.change.now c.in_default.not-Object) (λ s. search (rules, (c.in_ok-has_same.ensures.same i (subst (λ u. StandsAt u P i) kept.made stands)).1 s)) put)
    c.replace-2.ensures)

-- ---- one member

pub merge_member-returns-in-None : goal.merge_member-returns-in-None
merge_member-returns-in-None t c =
    let kept = c.in_ok-here.ensures.kept in
    let patch = text_of c.args.texts.now.patch in
    let P = c.args.path.now in
    let q = value_view c.args.change.now in record {
      texts = kept.texts;
      same = kept.same;
      made = λ was may. subst (λ u. IsChanged (text_of c.args.texts.now.document) u (MergesMember patch P was q (λ i. MergesInto patch P i q))) (sym kept.made)
          (left_out patch P was q (λ (i : Json). MergesInto patch P i q) (text_of c.args.texts.now.document)
          (none_was (text_of c.args.texts.now.document) P was c.in_ok-here.here may c.in_ok-here.ensures.shape c.in-None.is) (search rules));
    }

pub merge_member-remove-requires-clause-stands : goal.merge_member-remove-requires-clause-stands
merge_member-remove-requires-clause-stands t c =
    let text = text_of c.args.texts.now.document in
    let P = c.args.path.now in
    let (was, may) = c.requires.stands in
    let (i, is) = some_was text P was c.in_ok-here.here c.in-Some.field-0 may c.in_ok-here.ensures.shape c.in-Some.is in
    (i, may_as text (text_of c.shape.new.self.document) P was (Some i) c.in_ok-here.ensures.kept.made is may)

pub merge_member-returns-in-Some : goal.merge_member-returns-in-Some
merge_member-returns-in-Some t c =
    let kept = c.in_ok-here.ensures.kept in
    let mid = c.shape.new.self in
    let P = c.args.path.now in
    let q = value_view c.args.change.now in
    becomes_kept c.args.texts.now mid c.remove.new.self _ c.remove.result kept
    (becomes_as mid c.remove.new.self _ _ c.remove.result
    (λ made was may. let (i, is) = some_was (text_of c.args.texts.now.document) P was c.in_ok-here.here c.in-Some.field-0 (subst (λ u. MayStandAt u P was) kept.made may) c.in_ok-here.ensures.shape c.in-Some.is in
    removed (text_of mid.patch) P was q i (λ (x : Json). MergesInto (text_of mid.patch) P x q) (text_of mid.document) (text_of c.remove.new.self.document) is (search rules) made)
    c.remove.ensures)

pub merge_member-merge_into-requires : goal.merge_member-merge_into-requires
merge_member-merge_into-requires t c =
    let kept = c.in_ok-here.ensures.kept in
    let text = text_of c.args.texts.now.document in
    let mid = c.shape.new.self in
    let P = c.args.path.now in
    let q = value_view c.args.change.now in
    let (was, may) = c.requires.stands in
    let (i, is) = some_was text P was c.in_ok-here.here c.in-Some-here.here may c.in_ok-here.ensures.shape c.in-Some-here.is in (
      omega arith,
      (
        kept.texts,
        (
          stands_as (text_of c.args.texts.now.patch) (text_of mid.patch) P q q kept.same refl c.requires.named,
          (
            (i, stands_as text (text_of mid.document) P i i kept.made refl (member_there text P was i may is)),
            λ x stands. shape_stands text P c.in_ok-here.here c.in-Some-here.here x c.in_ok-here.ensures.shape c.in-Some-here.is (subst (λ u. StandsAt u P x) kept.made stands),
          ),
        ),
      ),
    )

pub merge_member-returns-in-Some-here : goal.merge_member-returns-in-Some-here
merge_member-returns-in-Some-here t c =
    let kept = c.in_ok-here.ensures.kept in
    let mid = c.shape.new.self in
    let P = c.args.path.now in
    becomes_kept c.args.texts.now mid c.merge_into.new.texts _ c.merge_into.result kept
    (becomes_as mid c.merge_into.new.texts _ _ c.merge_into.result
    (λ made was may. let (i, is) = some_was (text_of c.args.texts.now.document) P was c.in_ok-here.here c.in-Some-here.here (subst (λ u. MayStandAt u P was) kept.made may) c.in_ok-here.ensures.shape c.in-Some-here.is in
    found_one (text_of mid.patch) P was (value_view c.args.change.now) i (text_of mid.document) (text_of c.merge_into.new.texts.document) is (search rules) (made i (member_there (text_of mid.document) P was i may is)))
    c.merge_into.ensures)

pub merge_member-add-requires-clause-named : goal.merge_member-add-requires-clause-named
merge_member-add-requires-clause-named t c =
    let q = value_view c.args.change.now in
    (q, stands_as (text_of c.args.texts.now.patch) (text_of c.shape.new.self.patch) c.args.path.now q q c.in_ok-here.ensures.kept.same refl c.requires.named)

pub merge_member-add-requires-clause-stands : goal.merge_member-add-requires-clause-stands
merge_member-add-requires-clause-stands t c =
    let text = text_of c.args.texts.now.document in
    let (was, may) = c.requires.stands in
    may_as text (text_of c.shape.new.self.document) c.args.path.now was None c.in_ok-here.ensures.kept.made
    (none_was text c.args.path.now was c.in_ok-here.here may c.in_ok-here.ensures.shape c.in_default.is) may

pub merge_member-prune_value-requires-clause-named : goal.merge_member-prune_value-requires-clause-named
merge_member-prune_value-requires-clause-named t c =
    stands_as (text_of c.args.texts.now.patch) (text_of c.add.new.self.patch) c.args.path.now (value_view c.args.change.now) (value_view c.args.change.now) (c.in_ok-add.ensures.same ∙ c.in_ok-here.ensures.kept.same) refl c.requires.named

pub merge_member-prune_value-requires-clause-stands : goal.merge_member-prune_value-requires-clause-stands
merge_member-prune_value-requires-clause-stands t c =
    let kept = c.in_ok-here.ensures.kept in
    let text = text_of c.args.texts.now.document in
    let mid = c.shape.new.self in
    let P = c.args.path.now in
    let q = value_view c.args.change.now in
    let (was, may) = c.requires.stands in
    after_adding (text_of mid.document) (text_of mid.patch) (text_of c.add.new.self.document) P q
    (may_as text (text_of mid.document) P was None kept.made (none_was text P was c.in_ok-here.here may c.in_ok-here.ensures.shape c.in_default.is) may)
    (stands_as (text_of c.args.texts.now.patch) (text_of mid.patch) P q q kept.same refl c.requires.named) c.in_ok-add.ensures.made

pub merge_member-returns : goal.merge_member-returns
merge_member-returns t c =
    let kept = c.in_ok-here.ensures.kept in
    let mid = c.shape.new.self in
    let P = c.args.path.now in
    becomes_kept c.args.texts.now mid c.prune_value.new.texts _ c.prune_value.result kept
    (becomes_then mid c.add.new.self c.prune_value.new.texts _ _ _ c.prune_value.result c.in_ok-add.ensures
    (λ put more was may. added (text_of mid.patch) P was (value_view c.args.change.now) (text_of mid.document) (text_of c.add.new.self.document) (text_of c.prune_value.new.texts.document)
    (none_was (text_of c.args.texts.now.document) P was c.in_ok-here.here (subst (λ u. MayStandAt u P was) kept.made may) c.in_ok-here.ensures.shape c.in_default.is) (search rules) put more)
    c.prune_value.ensures)

-- ---- one member after another

pub merge_members-loop-index-init : goal.merge_members-loop-index-init
merge_members-loop-index-init t c = record {
  texts = c.requires.texts;
  same = refl;
  done = λ is stands. first_up_to (text_of c.args.texts.now.patch) c.args.path.now (object is) is (members_view c.args.changes.now.items) (text_of c.args.texts.now.document) refl stands;
}

pub merge_members-loop-index-preserved-then-comes_again : goal.merge_members-loop-index-preserved-then-comes_again
merge_members-loop-index-preserved-then-comes_again t c = record {
  texts = c.loop-index.invariant.texts;
  same = c.loop-index.invariant.same;
  done = λ is stands. passed (text_of c.args.texts.now.patch) c.args.path.now is c.args.changes.now.items c.loop-index.index c.index-member.result.now c.comes_again.result
      (text_of c.args.texts.now.document) (text_of c.loop-index.texts.document)
      (omega (arith, c.loop-index-test.true)) c.index-member.ensures (c.comes_again.ensures _ c.in_ok-lasts.ensures) (c.loop-index.invariant.done is stands) c.if-comes_again.true;
}

pub merge_members-merge_member-requires : goal.merge_members-merge_member-requires
merge_members-merge_member-requires t c =
    let e = c.index-member.result.now in
    let (is, stands) = c.requires.stands in (
      omega (arith, pair_depth c.args.changes.now.items c.loop-index.index e (omega (arith, c.loop-index-test.true)) c.index-member.ensures),
      (
        c.loop-index.invariant.texts,
        (
          named (text_of c.args.texts.now.patch) c.args.path.now is c.args.changes.now.items c.loop-index.index e c.comes_again.result (text_of c.args.texts.now.document) (text_of c.loop-index.texts.document)
              (omega (arith, c.loop-index-test.true)) c.index-member.ensures (c.comes_again.ensures _ c.in_ok-lasts.ensures) (c.loop-index.invariant.done is stands) c.if-comes_again.false (text_of c.loop-index.texts.patch) c.in_ok-there.there
              c.loop-index.invariant.same c.in_ok-there.ensures c.requires.named,
          (
            get_member e.0.now is,
            may_stand (text_of c.args.texts.now.patch) c.args.path.now is c.args.changes.now.items c.loop-index.index e c.comes_again.result (text_of c.args.texts.now.document) (text_of c.loop-index.texts.document)
                (omega (arith, c.loop-index-test.true)) c.index-member.ensures (c.comes_again.ensures _ c.in_ok-lasts.ensures) (c.loop-index.invariant.done is stands) c.if-comes_again.false c.in_ok-there.there (get_member e.0.now is) c.in_ok-there.ensures refl,
          ),
        ),
      ),
    )

pub merge_members-loop-index-preserved : goal.merge_members-loop-index-preserved
merge_members-loop-index-preserved t c =
    let e = c.index-member.result.now in record {
      texts = c.in_ok-merge_member.ensures.texts;
      same = c.in_ok-merge_member.ensures.same ∙ c.loop-index.invariant.same;
      done = λ is stands. merged (text_of c.args.texts.now.patch) c.args.path.now is c.args.changes.now.items c.loop-index.index e c.comes_again.result (text_of c.args.texts.now.document) (text_of c.loop-index.texts.document)
          (omega (arith, c.loop-index-test.true)) c.index-member.ensures (c.comes_again.ensures _ c.in_ok-lasts.ensures) (c.loop-index.invariant.done is stands) c.if-comes_again.false (text_of c.loop-index.texts.patch) c.in_ok-there.there (get_member e.0.now is) (text_of c.merge_member.new.texts.document)
          c.loop-index.invariant.same c.in_ok-there.ensures refl c.requires.named
          (c.in_ok-merge_member.ensures.made (get_member e.0.now is)
          (may_stand (text_of c.args.texts.now.patch) c.args.path.now is c.args.changes.now.items c.loop-index.index e c.comes_again.result (text_of c.args.texts.now.document) (text_of c.loop-index.texts.document)
          (omega (arith, c.loop-index-test.true)) c.index-member.ensures (c.comes_again.ensures _ c.in_ok-lasts.ensures) (c.loop-index.invariant.done is stands) c.if-comes_again.false c.in_ok-there.there (get_member e.0.now is) c.in_ok-there.ensures refl));
    }

pub merge_members-returns : goal.merge_members-returns
merge_members-returns t c = record {
  texts = c.loop-index.invariant.texts;
  same = c.loop-index.invariant.same;
  made = λ is stands. all_merged (text_of c.args.texts.now.patch) c.args.path.now is (members_view c.args.changes.now.items) c.args.changes.now.items c.loop-index.index (text_of c.args.texts.now.document) (text_of c.loop-index.texts.document)
      (omega (arith, c.loop-index-test.false)) (c.loop-index.invariant.done is stands).made;
}
