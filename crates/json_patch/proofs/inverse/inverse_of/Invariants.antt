use Rattle.json_patch.proofs.Common.{◌≡◌, ◌≤◌, ◌+◌, ◌*◌, ◌++◌, length, operations}
use Rattle.std.specs.Prelude.{vec_capacity, vec_len}
use Rattle.json_patch.specs.Logged.{kept_blocks}
use Rattle.json_patch.proofs.inverse.inverse_of.Given as goal

abbrev pub invariant-loop-change : goal.invariant-loop-change
invariant-loop-change l = record {
  says : operations l.undo.items ++ kept_blocks l.changes.items ≡ operations l.fn.undo.items ++ kept_blocks l.fn.changes.items;
  room : vec_len l.undo + 2 * vec_len l.changes ≤ vec_capacity l.undo;
}

abbrev pub decreases-loop-change : goal.decreases-loop-change
decreases-loop-change l = length l.changes.items
