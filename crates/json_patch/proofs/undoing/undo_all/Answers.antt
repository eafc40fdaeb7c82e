use Rattle.json_patch.proofs.Logged.{leads_popped, roomy_more, roomy_popped}
use Rattle.json_patch.proofs.undoing.undo_all.Goals as goal

pub undo_one-requires-clause-roomy : goal.undo_one-requires-clause-roomy
undo_one-requires-clause-roomy c = (roomy_popped _ c.pop.new.self.items c.in-Some.change (rw c.in-Some.ensures.items at c.loop-change.invariant.roomy)).1

pub undo_one-requires-clause-undone : goal.undo_one-requires-clause-undone
undo_one-requires-clause-undone c =
    let last = leads_popped c.pop.new.self.items c.in-Some.change _ _ (rw c.in-Some.ensures.items at c.loop-change.invariant.leads.1) in (last.0, last.1)

pub loop-change-preserved : goal.loop-change-preserved
loop-change-preserved c =
    let last = leads_popped c.pop.new.self.items c.in-Some.change _ _ (rw c.in-Some.ensures.items at c.loop-change.invariant.leads.1) in record {
      roomy = roomy_more _ _ _ c.undo_one.ensures.grows (roomy_popped _ c.pop.new.self.items c.in-Some.change (rw c.in-Some.ensures.items at c.loop-change.invariant.roomy)).0;
      leads = (c.loop-change.invariant.leads.0, rw (c.undo_one.ensures.undoes last.0 last.1) last.2);
      back = λ p h. (let one = leads_popped c.pop.new.self.items c.in-Some.change _ p (rw c.in-Some.ensures.items at c.loop-change.invariant.back p h) in rw (c.undo_one.ensures.undoes one.0 one.1) one.2);
    }
