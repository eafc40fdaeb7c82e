use Rattle.std.proofs.Common.{◌≡◌, ◌∙◌, length, refl, arith}
use Rattle.json_patch_text.proofs.Bounded.{deep_under, first_shallow, logged_first, logged_last, logged_more, not_over, over_reached, reached_last, reached_shallow, reached_under_first, reached_under_more, reported_under, settled_most, settled_under, step_nested, written_here}
use Rattle.json_patch_text.proofs.Reached.{all_accepted, reached_first}
use Rattle.json_patch_text.proofs.Kept.{kept_first, kept_more}
use Rattle.json_patch_text.specs.Drafts.{draft_text}
use Rattle.json_patch_text.proofs.run.run_in.Goals as goal

pub loop-number-init : goal.loop-number-init
loop-number-init c =
    let text = draft_text c.args.draft.now in
    record {
      draft = c.requires.draft;
      back = kept_first c.args.draft.now;
      reached = reached_under_first c.args.bounds text text c.args.operations.now c.args.log.now.cost refl (reached_first text text c.args.operations.now refl) c.requires.under.0 c.requires.empty.1;
      deep = first_shallow text text refl c.requires.shallow;
      low = omega arith;
      nested = λ e. e;
      kept = refl;
      logged = logged_first c.args.bounds text text c.args.operations.now c.args.log.now refl c.requires.empty c.requires.under.0 c.requires.under.1;
    }

pub returns-then-deep-clause-fault : goal.returns-then-deep-clause-fault
returns-then-deep-clause-fault c ops w =
    deep_under c.args.log.now.kept c.args.bounds (draft_text c.args.draft.now) (draft_text c.loop-number.draft) c.args.operations.now ops c.loop-number.number c.loop-number.log
    c.loop-number-test.true c.loop-number.invariant.kept c.loop-number.invariant.reached c.loop-number.invariant.logged (c.loop-number.invariant.deep.0 c.if-deep.true)

pub step-requires-clause-shallow : goal.step-requires-clause-shallow
step-requires-clause-shallow c =
    reached_shallow c.args.bounds (draft_text c.args.draft.now) (draft_text c.loop-number.draft) c.args.operations.now c.loop-number.number c.loop-number.log.cost c.loop-number.deep
    c.requires.shallow c.requires.written c.loop-number.invariant.reached c.loop-number.invariant.deep c.if-deep.false

pub step-requires-clause-written : goal.step-requires-clause-written
step-requires-clause-written c = written_here c.args.operations.now c.loop-number.number c.index-operations-number.result c.loop-number-test.true c.index-operations-number.is c.requires.written

pub returns-in-Err-clause-fault : goal.returns-in-Err-clause-fault
returns-in-Err-clause-fault c ops w =
    reported_under c.args.log.now.kept c.args.bounds (draft_text c.args.draft.now) (draft_text c.loop-number.draft) c.args.operations.now ops c.loop-number.number c.index-operations-number.result c.in-Err.fault c.reported-fault.result c.loop-number.log
    c.requires.shallow c.loop-number-test.true c.index-operations-number.is c.loop-number.invariant.kept c.loop-number.invariant.reached c.loop-number.invariant.logged c.in-Err.ensures.tree c.reported-fault.ensures w

pub settled-requires-clause-depth : goal.settled-requires-clause-depth
settled-requires-clause-depth c =
    step_nested c.args.bounds (draft_text c.args.draft.now) (draft_text c.loop-number.draft) (draft_text c.step.new.draft) c.args.operations.now c.loop-number.number c.loop-number.log.cost c.levels-levels.result c.loop-number.most c.loop-number.deep c.in-Ok.left
    c.levels-levels.ensures c.loop-number.invariant.reached c.loop-number.invariant.deep c.if-deep.false c.loop-number.invariant.nested c.in-Ok.ensures.depth

pub over-requires-clause-depth : goal.over-requires-clause-depth
over-requires-clause-depth c = λ e.
    settled_under c.args.bounds (draft_text c.step.new.draft) c.levels-levels.result c.in_ok-left.left c.is_none.result c.levels-levels.ensures c.in_ok-left.ensures c.is_none.ensures e

pub returns-in-Some-clause-fault : goal.returns-in-Some-clause-fault
returns-in-Some-clause-fault c ops w =
    over_reached c.args.log.now.kept c.args.bounds (draft_text c.args.draft.now) (draft_text c.loop-number.draft) (draft_text c.step.new.draft) c.args.operations.now ops c.loop-number.number c.index-operations-number.result c.loop-number.log c.step.new.log c.in-Some.kind
    c.requires.shallow c.loop-number-test.true c.index-operations-number.is c.loop-number.invariant.kept c.loop-number.invariant.reached c.loop-number.invariant.logged c.in-Ok.ensures.made c.in-Ok.ensures.tree c.in-Ok.ensures.logs c.in-Ok.ensures.counted (rw c.in-Some.is at c.in_ok-kind.ensures) w

pub loop-number-preserved : goal.loop-number-preserved
loop-number-preserved c =
    let (under, short) = not_over _ _ c.in_ok-kind.field-0 c.in_default.not-Some c.in_ok-kind.ensures in
    record {
      draft = c.step.ensures.draft;
      back = kept_more c.args.draft.now c.loop-number.draft c.step.new.draft c.loop-number.invariant.back c.step.ensures.back;
      reached = reached_under_more c.args.bounds (draft_text c.args.draft.now) (draft_text c.loop-number.draft) (draft_text c.step.new.draft) c.args.operations.now c.loop-number.number c.index-operations-number.result c.loop-number.log c.step.new.log
          c.loop-number-test.true c.index-operations-number.is c.loop-number.invariant.reached c.in-Ok.ensures.made c.in-Ok.ensures.counted c.in-Ok.ensures.tree under short;
      deep = c.in_ok-deep.ensures;
      low = (settled_most (draft_text c.step.new.draft) c.levels-levels.result c.unwrap_or-most.result c.in_ok-left.left c.unwrap_or-most.ensures c.in_ok-left.ensures).0;
      nested = (settled_most (draft_text c.step.new.draft) c.levels-levels.result c.unwrap_or-most.result c.in_ok-left.left c.unwrap_or-most.ensures c.in_ok-left.ensures).1;
      kept = c.in-Ok.ensures.logs.0 ∙ c.loop-number.invariant.kept;
      logged = logged_more c.args.bounds (draft_text c.args.draft.now) (draft_text c.loop-number.draft) (draft_text c.step.new.draft) c.args.operations.now c.loop-number.number c.index-operations-number.result c.loop-number.log c.step.new.log c.loop-number.deep
          c.loop-number-test.true c.index-operations-number.is c.loop-number.invariant.logged c.loop-number.invariant.deep c.if-deep.false c.in-Ok.ensures.made c.in-Ok.ensures.logs c.in-Ok.ensures.counted under short;
    }

pub returns-clause-logged : goal.returns-clause-logged
returns-clause-logged c =
    let end : length c.args.operations.now ≡ c.loop-number.number = omega arith in
    (c.loop-number.invariant.kept, logged_last c.args.bounds (draft_text c.args.draft.now) (draft_text c.loop-number.draft) _ c.args.operations.now c.loop-number.number c.loop-number.log end refl c.loop-number.invariant.logged)

pub returns-clause-made : goal.returns-clause-made
returns-clause-made c =
    let end : length c.args.operations.now ≡ c.loop-number.number = omega arith in
    reached_last c.args.bounds (draft_text c.args.draft.now) (draft_text c.loop-number.draft) _ c.args.operations.now c.loop-number.number c.loop-number.log.cost end refl c.loop-number.invariant.reached

pub returns-clause-accepted : goal.returns-clause-accepted
returns-clause-accepted c ops w =
    let end : length c.args.operations.now ≡ c.loop-number.number = omega arith in
    all_accepted (draft_text c.args.draft.now) (draft_text c.loop-number.draft) c.args.operations.now ops c.loop-number.number end c.requires.shallow c.loop-number.invariant.reached.0 w

pub returns-in-Err-clause-back : goal.returns-in-Err-clause-back
returns-in-Err-clause-back c = kept_more _ _ _ c.loop-number.invariant.back c.step.ensures.back

pub returns-in_err-left-clause-back : goal.returns-in_err-left-clause-back
returns-in_err-left-clause-back c = kept_more _ _ _ c.loop-number.invariant.back c.step.ensures.back

pub returns-in_err-kind-clause-back : goal.returns-in_err-kind-clause-back
returns-in_err-kind-clause-back c = kept_more _ _ _ c.loop-number.invariant.back c.step.ensures.back

pub returns-in-Some-clause-back : goal.returns-in-Some-clause-back
returns-in-Some-clause-back c = kept_more _ _ _ c.loop-number.invariant.back c.step.ensures.back

pub returns-in_err-deep-clause-back : goal.returns-in_err-deep-clause-back
returns-in_err-deep-clause-back c = kept_more _ _ _ c.loop-number.invariant.back c.step.ensures.back
