use Rattle.std.proofs.Common.{◌≡◌, length}
use Rattle.std.specs.Vec.Iter.{into_iter_items, into_iter_len}
use Rattle.serde_json.specs.Data.{Data}
use Rattle.json_patch.specs.Inverse.{IsInverse}
use Rattle.json_patch.specs.Operation.{operations}
use Rattle.json_patch_diff.specs.Steps.{AreChanges}
use Rattle.json_patch_diff.proofs.Guards.{Along}
use Rattle.json_patch_diff.proofs.guarded.guard.Given as goal

abbrev pub invariant-loop-change : goal.invariant-loop-change
invariant-loop-change l = record {
  along : (d : Data) → AreChanges (operations l.fn.changes.items) → IsInverse d (operations l.fn.changes.items) (operations l.fn.undo.items)
      → Along d (operations l.fn.changes.items) (operations (into_iter_items l.change-iterator)) (operations l.undo.items) (operations l.guarded.items);
  len : into_iter_len l.change-iterator ≡ length (into_iter_items l.change-iterator);
}
