use Rattle.std.proofs.Common.{drop}
use Rattle.std.specs.Prelude.{◌↔◌}
use Rattle.json_patch.specs.Operation.{operations}
use Rattle.json_patch_moves.specs.Moving.{AreMoving}
use Rattle.json_patch_moves.proofs.moving.are_moving.Given as goal

abbrev pub invariant-loop-change : goal.invariant-loop-change
invariant-loop-change l = AreMoving (operations l.changes) ↔ AreMoving (operations (drop l.change-index l.changes))
