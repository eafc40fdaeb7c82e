use Rattle.std.proofs.Common.{length}
use Rattle.json_pieces.specs.Backs.{AreBack}
use Rattle.json_pieces.specs.Held.{Held, held}
use Rattle.json_pieces.proofs.back.back_by.Given as goal

abbrev pub invariant-loop-step : goal.invariant-loop-step
invariant-loop-step l = record {
  can : (p : Held) × AreBack l.steps.items (held l.node) p;
  back : (p : Held) → AreBack l.fn.steps.items (held l.initial.node) p → AreBack l.steps.items (held l.node) p;
}

abbrev pub decreases-loop-step : goal.decreases-loop-step
decreases-loop-step l = length l.steps.items
