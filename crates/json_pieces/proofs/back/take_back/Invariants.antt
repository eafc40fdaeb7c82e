use Rattle.std.proofs.Common.{length}
use Rattle.json_pieces.specs.Backs.{LogLeads}
use Rattle.json_pieces.specs.Held.{Held, held}
use Rattle.json_pieces.proofs.back.take_back.Given as goal

abbrev pub invariant-loop-change : goal.invariant-loop-change
invariant-loop-change l = record {
  can : (p : Held) × LogLeads l.log.items (held l.node) p;
  back : (p : Held) → LogLeads l.initial.log.items (held l.initial.node) p → LogLeads l.log.items (held l.node) p;
}

abbrev pub decreases-loop-change : goal.decreases-loop-change
decreases-loop-change l = length l.log.items
