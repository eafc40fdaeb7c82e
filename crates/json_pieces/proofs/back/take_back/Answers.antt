use Rattle.std.proofs.Common.{sym, subst}
use Rattle.json_pieces.specs.Backs.{AreBack, LogLeads}
use Rattle.json_pieces.proofs.Backs.{along_same, log_popped}
use Rattle.json_pieces.proofs.back.take_back.Goals as goal

pub back_at-requires : goal.back_at-requires
back_at-requires c =
    let last = log_popped c.pop.new.self.items c.in-Some.change _ _ (rw c.in-Some.ensures.items at c.loop-change.invariant.can.1) in
    (last.0, along_same _ c.in-Some.change.place.items (AreBack c.in-Some.change.steps.items) _ last.0 c.as_slice.ensures.value last.1)

pub loop-change-preserved : goal.loop-change-preserved
loop-change-preserved c =
    let last = log_popped c.pop.new.self.items c.in-Some.change _ _ (rw c.in-Some.ensures.items at c.loop-change.invariant.can.1) in
    let here = c.back_at.ensures last.0 (along_same _ c.in-Some.change.place.items (AreBack c.in-Some.change.steps.items) _ last.0 c.as_slice.ensures.value last.1) in record {
      can = (c.loop-change.invariant.can.0, subst (λ x. LogLeads c.pop.new.self.items x c.loop-change.invariant.can.0) (sym here) last.2);
      back = λ p h.
          let one = log_popped c.pop.new.self.items c.in-Some.change _ p (rw c.in-Some.ensures.items at c.loop-change.invariant.back p h) in
          let there = c.back_at.ensures one.0 (along_same _ c.in-Some.change.place.items (AreBack c.in-Some.change.steps.items) _ one.0 c.as_slice.ensures.value one.1) in
          subst (λ x. LogLeads c.pop.new.self.items x p) (sym there) one.2;
    }
