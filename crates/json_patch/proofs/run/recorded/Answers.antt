use Rattle.json_patch.proofs.Common.{refl, view}
use Rattle.json_patch.proofs.ProgramRuns.{recorded_all}
use Rattle.json_patch.proofs.run.recorded.Goals as goal

pub returns-in-Ok-clause-records : goal.returns-in-Ok-clause-records
returns-in-Ok-clause-records c =
    recorded_all (view c.args.doc.now) (view c.run.new.doc) c.args.patches.now c.in-Ok.undo.items c.requires.document c.requires.whole c.in-Ok.ensures.accepted (c.in-Ok.ensures.inverse refl)
