use Rattle.std.proofs.Common.{◌≤◌, length}
use Rattle.json_lexemes.proofs.signposts.Places.step_to.Given as goal

abbrev pub invariant-loop-left : goal.invariant-loop-left
invariant-loop-left l = record {
  high : l.left ≤ length l.self.steps.now;
}

abbrev pub decreases-loop-left : goal.decreases-loop-left
decreases-loop-left l = l.left
