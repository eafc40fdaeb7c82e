use Rattle.json_patch.proofs.Common.{◌≤◌, view}
use Rattle.json_patch_edit.specs.Marked.{IsSeen, seen}
use Rattle.json_patch_edit.specs.MarkedComputed.{marks}
use Rattle.json_patch.proofs.clearing.clear_followed.Given as goal

abbrev pub invariant-loop-number : goal.invariant-loop-number
invariant-loop-number l = record {
  cleared : IsSeen (view l.doc) (seen (view l.fn.doc));
  counts : marks (view l.doc) ≤ l.left;
}
