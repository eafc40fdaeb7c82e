use Rattle.std.proofs.Common.{length}
use Rattle.json_pieces.specs.Backs.{AreBack}
use Rattle.json_pieces.specs.Held.{Held, row_held}
use Rattle.json_pieces.specs.Logged.{AreInRow}
use Rattle.json_pieces.proofs.back.back_in_row.Given as goal

abbrev pub invariant-loop-step : goal.invariant-loop-step
invariant-loop-step l = record {
  can : (p : Held) × AreBack l.steps.items (row_held l.row) p;
  inner : AreInRow l.steps.items;
  back : (p : Held) → AreBack l.initial.steps.items (row_held l.initial.row) p → AreBack l.steps.items (row_held l.row) p;
}

abbrev pub decreases-loop-step : goal.decreases-loop-step
decreases-loop-step l = length l.steps.items
