use Rattle.json_patch.proofs.Common.{view, true, operations}
use Rattle.json_patch_laws.proofs.InverseDepths.{inverse_shallow}
use Rattle.json_patch_laws.proofs.LimitedRuns.{inverse_size, never_none}
use Rattle.json_patch_limits.specs.OverLimits.{IsNeverOverRecorded}
use Rattle.json_patch_operation.specs.Operation.{operations_of}
use Rattle.json_patch.proofs.run.apply_patches_within.Goals as goal

pub returns-in-Ok-clause-undo_shallow : goal.returns-in-Ok-clause-undo_shallow
returns-in-Ok-clause-undo_shallow c shallow =
    let d = view c.args.doc.now in let ops = operations c.args.patches.now in
    let never : IsNeverOverRecorded c.args.limits d ops = never_none true c.args.limits d ops c.requires.document c.requires.whole c.in-Ok.ensures.never in
    inverse_shallow true c.args.limits d ops (operations_of c.in-Ok.undo) c.requires.document c.requires.whole never shallow c.in-Ok.ensures.records.inverse

pub returns-in-Ok-clause-small : goal.returns-in-Ok-clause-small
returns-in-Ok-clause-small c =
    let d = view c.args.doc.now in let ops = operations c.args.patches.now in
    let never : IsNeverOverRecorded c.args.limits d ops = never_none true c.args.limits d ops c.requires.document c.requires.whole c.in-Ok.ensures.never in
    inverse_size c.args.limits d ops (operations_of c.in-Ok.undo) (view c.recorded.new.doc) c.requires.document c.requires.whole never c.in-Ok.ensures.accepted c.in-Ok.ensures.records.inverse
