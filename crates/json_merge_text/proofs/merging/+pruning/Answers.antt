use Rattle.std.proofs.Common.{◌∙◌, arith, refl, rules}
use Rattle.json.specs.Json.{Json}
use Rattle.json.specs.Value.{value_view, members_view}
use Rattle.json_merge_text.specs.Merging.{MergesInto}
use Rattle.json_merge_text.proofs.Built.{all_merged, found_one, last_named, left_itself, other_value, pair_depth, removed}
use Rattle.json_merge_text.proofs.Possible.{first_up_to, may_stand, member_there, merged, named, passed, removal_stands}
use Rattle.json_pieces.specs.Whole.{text_of}
use Rattle.json_merge_text.proofs.merging.+pruning.Goals as goal

pub prune-loop-index-init : goal.prune-loop-index-init
prune-loop-index-init t c =
    let all = members_view c.args.members.now.items in
    record { texts = c.requires.texts; same = refl; done = first_up_to (text_of c.args.texts.now.patch) c.args.path.now _ all all (text_of c.args.texts.now.document) refl c.requires.stands }

pub prune-loop-index-preserved-then-comes_again : goal.prune-loop-index-preserved-then-comes_again
prune-loop-index-preserved-then-comes_again t c = record {
  texts = c.loop-index.invariant.texts;
  same = c.loop-index.invariant.same;
  done = passed (text_of c.args.texts.now.patch) c.args.path.now (members_view c.args.members.now.items) c.args.members.now.items c.loop-index.index c.index-member.result.now c.comes_again.result
      (text_of c.args.texts.now.document) (text_of c.loop-index.texts.document)
      (omega (arith, c.loop-index-test.true)) c.index-member.ensures (c.comes_again.ensures _ c.in_ok-lasts.ensures) c.loop-index.invariant.done c.if-comes_again.true;
}

pub prune-remove-requires-clause-stands : goal.prune-remove-requires-clause-stands
prune-remove-requires-clause-stands t c =
    let all = members_view c.args.members.now.items in
    let e = c.index-member.result.now in
    let there = last_named c.args.members.now.items c.loop-index.index e c.comes_again.result (omega (arith, c.loop-index-test.true)) c.index-member.ensures (c.comes_again.ensures _ c.in_ok-lasts.ensures) c.if-comes_again.false in
    removal_stands (text_of c.loop-index.texts.document) c.in_ok-there.there _ (value_view e.1) there
    (may_stand (text_of c.args.texts.now.patch) c.args.path.now all c.args.members.now.items c.loop-index.index e c.comes_again.result (text_of c.args.texts.now.document) (text_of c.loop-index.texts.document)
    (omega (arith, c.loop-index-test.true)) c.index-member.ensures (c.comes_again.ensures _ c.in_ok-lasts.ensures) c.loop-index.invariant.done c.if-comes_again.false c.in_ok-there.there _ c.in_ok-there.ensures refl)

pub prune-loop-index-preserved-then-is_null : goal.prune-loop-index-preserved-then-is_null
prune-loop-index-preserved-then-is_null t c =
    let e = c.index-member.result.now in
    let q = value_view e.1 in
    let all = members_view c.args.members.now.items in
    let patch = text_of c.loop-index.texts.patch in
    let there = c.in_ok-there.there in record {
      texts = c.in_ok-remove.ensures.texts;
      same = c.in_ok-remove.ensures.same ∙ c.loop-index.invariant.same;
      done = merged (text_of c.args.texts.now.patch) c.args.path.now all c.args.members.now.items c.loop-index.index e c.comes_again.result (text_of c.args.texts.now.document) (text_of c.loop-index.texts.document)
          (omega (arith, c.loop-index-test.true)) c.index-member.ensures (c.comes_again.ensures _ c.in_ok-lasts.ensures) c.loop-index.invariant.done c.if-comes_again.false patch there _ (text_of c.remove.new.self.document)
          c.loop-index.invariant.same c.in_ok-there.ensures refl c.requires.named
          (removed patch there _ q q (λ (x : Json). MergesInto patch there x q) (text_of c.loop-index.texts.document) (text_of c.remove.new.self.document)
          (last_named c.args.members.now.items c.loop-index.index e c.comes_again.result (omega (arith, c.loop-index-test.true)) c.index-member.ensures (c.comes_again.ensures _ c.in_ok-lasts.ensures) c.if-comes_again.false)
          (search rules) c.in_ok-remove.ensures.made);
    }

pub prune-prune_value-requires : goal.prune-prune_value-requires
prune-prune_value-requires t c =
    let all = members_view c.args.members.now.items in
    let e = c.index-member.result.now in
    let there = last_named c.args.members.now.items c.loop-index.index e c.comes_again.result (omega (arith, c.loop-index-test.true)) c.index-member.ensures (c.comes_again.ensures _ c.in_ok-lasts.ensures) c.if-comes_again.false in (
      omega (arith, pair_depth c.args.members.now.items c.loop-index.index e (omega (arith, c.loop-index-test.true)) c.index-member.ensures),
      (
        c.loop-index.invariant.texts,
        (
          named (text_of c.args.texts.now.patch) c.args.path.now all c.args.members.now.items c.loop-index.index e c.comes_again.result (text_of c.args.texts.now.document) (text_of c.loop-index.texts.document)
              (omega (arith, c.loop-index-test.true)) c.index-member.ensures (c.comes_again.ensures _ c.in_ok-lasts.ensures) c.loop-index.invariant.done c.if-comes_again.false (text_of c.loop-index.texts.patch) c.in_ok-there.there
              c.loop-index.invariant.same c.in_ok-there.ensures c.requires.named,
          member_there (text_of c.loop-index.texts.document) c.in_ok-there.there _ (value_view e.1)
              (may_stand (text_of c.args.texts.now.patch) c.args.path.now all c.args.members.now.items c.loop-index.index e c.comes_again.result (text_of c.args.texts.now.document) (text_of c.loop-index.texts.document)
              (omega (arith, c.loop-index-test.true)) c.index-member.ensures (c.comes_again.ensures _ c.in_ok-lasts.ensures) c.loop-index.invariant.done c.if-comes_again.false c.in_ok-there.there _ c.in_ok-there.ensures refl) there,
        ),
      ),
    )

pub prune-loop-index-preserved : goal.prune-loop-index-preserved
prune-loop-index-preserved t c =
    let e = c.index-member.result.now in
    let q = value_view e.1 in
    let all = members_view c.args.members.now.items in
    let patch = text_of c.loop-index.texts.patch in
    let there = c.in_ok-there.there in record {
      texts = c.in_ok-prune_value.ensures.texts;
      same = c.in_ok-prune_value.ensures.same ∙ c.loop-index.invariant.same;
      done = merged (text_of c.args.texts.now.patch) c.args.path.now all c.args.members.now.items c.loop-index.index e c.comes_again.result (text_of c.args.texts.now.document) (text_of c.loop-index.texts.document)
          (omega (arith, c.loop-index-test.true)) c.index-member.ensures (c.comes_again.ensures _ c.in_ok-lasts.ensures) c.loop-index.invariant.done c.if-comes_again.false patch there _ (text_of c.prune_value.new.texts.document)
          c.loop-index.invariant.same c.in_ok-there.ensures refl c.requires.named
          (found_one patch there _ q q (text_of c.loop-index.texts.document) (text_of c.prune_value.new.texts.document)
          (last_named c.args.members.now.items c.loop-index.index e c.comes_again.result (omega (arith, c.loop-index-test.true)) c.index-member.ensures (c.comes_again.ensures _ c.in_ok-lasts.ensures) c.if-comes_again.false)
          (search rules) c.in_ok-prune_value.ensures.made);
    }

pub prune-returns : goal.prune-returns
prune-returns t c =
    let all = members_view c.args.members.now.items in record {
      texts = c.loop-index.invariant.texts;
      same = c.loop-index.invariant.same;
      made = all_merged (text_of c.args.texts.now.patch) c.args.path.now all all c.args.members.now.items c.loop-index.index (text_of c.args.texts.now.document) (text_of c.loop-index.texts.document)
          (omega (arith, c.loop-index-test.false)) c.loop-index.invariant.done.made;
    }

pub prune_value-returns-in_default : goal.prune_value-returns-in_default
prune_value-returns-in_default t c = record {
  texts = c.requires.texts;
  same = refl;
  made = left_itself (text_of c.args.texts.now.patch) c.args.path.now (value_view c.args.change.now) (text_of c.args.texts.now.document) (other_value c.args.change.now c.in_default.not-Object);
}
