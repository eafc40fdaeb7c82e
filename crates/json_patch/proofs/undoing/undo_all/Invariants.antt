use Rattle.json_patch.proofs.Common.{length, view}
use Rattle.serde_json.specs.Data.{Data}
use Rattle.json_patch_edit.specs.Exchange.{room}
use Rattle.json_patch.specs.Logged.{AreRoomy, LeadsBack}
use Rattle.json_patch.proofs.undoing.undo_all.Given as goal

abbrev pub invariant-loop-change : goal.invariant-loop-change
invariant-loop-change l = record {
  roomy : AreRoomy (room l.log.names) l.log.changes.items;
  leads : (p : Data) × LeadsBack l.log.changes.items (view l.doc) p;
  back : (p : Data) → LeadsBack l.fn.log.changes.items (view l.initial.doc) p → LeadsBack l.log.changes.items (view l.doc) p;
}

abbrev pub decreases-loop-change : goal.decreases-loop-change
decreases-loop-change l = length l.log.changes.items
