use Rattle.json_patch.proofs.Common.{◌≡◌, ◌≤◌, ◌<◌, ◌+◌, ◌⊎◌, length, take, view, operations, inverse, AreTestsThenRemove, []}
use Rattle.json_patch.proofs.LimitedStates.{IsRest}
use Rattle.json_patch.proofs.ProgramRuns.{IsState}
use Rattle.json_patch_edit.specs.Exchange.{room}
use Rattle.json_patch.specs.Logged.{AreRoomy, LeadsBack, held, is_recorded, kept_blocks, takes}
use Rattle.json_patch_edit.specs.Marked.{IsValue, seen}
use Rattle.json_patch_edit.specs.MarkedComputed.{marks}
use Rattle.json_patch.specs.declared.log.Keep.TheVariants.{Inverse}
use Rattle.json_patch.proofs.run.run.Given as goal

abbrev pub invariant-loop-number : goal.invariant-loop-number
invariant-loop-number l = record {
  state : IsState (view l.fn.doc) l.patch l.number (seen (view l.doc));
  marked : IsValue (view l.doc);
  counts : marks (view l.doc) + held l.log.changes.items ≤ takes l.log.changes.items;
  says : l.keep ≡ Inverse → kept_blocks l.log.changes.items ≡ inverse (view l.fn.doc) (take l.number (operations l.patch));
  roomy : AreRoomy (room l.log.names) l.log.changes.items;
  count : length l.log.changes.items ≤ l.number;
  leads : (l.number < length l.patch) ⊎ (l.keep ≡ Inverse) → LeadsBack l.log.changes.items (view l.doc) (view l.fn.doc);
  within : IsRest (is_recorded l.keep) l.fn.limits (view l.fn.doc) l.patch l.number l.limits (seen (view l.doc));
  tests : AreTestsThenRemove (operations l.patch) → l.number < length l.patch → l.log.changes.items ≡ [];
}
