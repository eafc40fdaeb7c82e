use Rattle.json_patch.proofs.Common.{view, operation_of}
use Rattle.json_patch.proofs.LoggedRuns.{free_alone}
use Rattle.json_patch.proofs.ProgramRuns.{free_within, not_stopped, reported_names, state_more, whole_at}
use Rattle.json_patch.proofs.run.patch_unsafe.Goals as goal

pub run_one-requires-clause-whole : goal.run_one-requires-clause-whole
run_one-requires-clause-whole c = whole_at c.args.patch.now c.loop-number.number c.index-patch-number.result c.loop-number-test.true c.index-patch-number.is c.requires.whole

pub returns-in-Err-clause-refused : goal.returns-in-Err-clause-refused
returns-in-Err-clause-refused c =
    reported_names (Unit {0}) c.reported.result c.in-Err.fault (view c.args.doc.now) (view c.loop-number.doc) (view c.run_one.new.doc) c.args.patch.now c.loop-number.number c.index-patch-number.result
    c.requires.document c.requires.whole c.loop-number-test.true c.index-patch-number.is c.loop-number.invariant c.in-Err.ensures.comes c.reported.ensures

pub returns-in-Err-clause-no_memory : goal.returns-in-Err-clause-no_memory
returns-in-Err-clause-no_memory c = λ free e end.
    absurd (not_stopped c.in-Err.fault (view c.args.doc.now) (view c.loop-number.doc) (view c.run_one.new.doc) e c.args.patch.now c.loop-number.number c.index-patch-number.result
    c.requires.document c.requires.whole c.loop-number-test.true c.index-patch-number.is c.loop-number.invariant c.in-Err.ensures.comes
    (c.in-Err.ensures.no_memory (free_alone (operation_of c.index-patch-number.result) (free_within c.args.patch.now c.loop-number.number c.index-patch-number.result c.loop-number-test.true c.index-patch-number.is free))) end)

pub loop-number-preserved : goal.loop-number-preserved
loop-number-preserved c =
    state_more (view c.args.doc.now) (view c.loop-number.doc) (view c.run_one.new.doc) c.args.patch.now c.loop-number.number c.index-patch-number.result
    c.requires.document c.requires.whole c.loop-number-test.true c.index-patch-number.is c.loop-number.invariant c.in_default.ensures.comes
