use Rattle.std.proofs.Common.{sym, subst}
use Rattle.json_pieces.specs.Backs.{AreBack}
use Rattle.json_pieces.proofs.Backs.{steps_popped}
use Rattle.json_pieces.proofs.back.back_by.Goals as goal

pub back_here-requires : goal.back_here-requires
back_here-requires c =
    let last = steps_popped c.pop.new.self.items c.in-Some.step _ _ (rw c.in-Some.ensures.items at c.loop-step.invariant.can.1) in
    (last.0, last.1)

pub loop-step-preserved : goal.loop-step-preserved
loop-step-preserved c =
    let last = steps_popped c.pop.new.self.items c.in-Some.step _ _ (rw c.in-Some.ensures.items at c.loop-step.invariant.can.1) in record {
      can = (c.loop-step.invariant.can.0, subst (λ x. AreBack c.pop.new.self.items x c.loop-step.invariant.can.0) (sym (c.back_here.ensures last.0 last.1)) last.2);
      back = λ p h.
          let one = steps_popped c.pop.new.self.items c.in-Some.step _ p (rw c.in-Some.ensures.items at c.loop-step.invariant.back p h) in
          subst (λ x. AreBack c.pop.new.self.items x p) (sym (c.back_here.ensures one.0 one.1)) one.2;
    }
