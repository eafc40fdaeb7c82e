use Rattle.json_patch.proofs.Common.{◌≤◌, ◌+◌, drop, view}
use Rattle.json_patch_edit.specs.Exchange.{room}
use Rattle.json_patch.specs.Logged.{AreRoomy, held}
use Rattle.json_patch_edit.specs.Marked.{IsSeen, seen}
use Rattle.json_patch_edit.specs.MarkedComputed.{marks}
use Rattle.json_patch.proofs.clearing.clear_places.Given as goal

abbrev pub invariant-loop-change : goal.invariant-loop-change
invariant-loop-change l = record {
  cleared : IsSeen (view l.doc) (seen (view l.fn.doc));
  roomy : AreRoomy (room l.names) (drop l.change-index l.changes);
  counts : marks (view l.doc) + held l.changes ≤ l.left;
}
