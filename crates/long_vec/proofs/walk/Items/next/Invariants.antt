use Rattle.std.proofs.Common.{◌≡◌, length}
use Rattle.long_vec.specs.Walks.{left}
use Rattle.long_vec.proofs.walk.Items.next.Given as goal

abbrev pub invariant-loop-block : goal.invariant-loop-block
invariant-loop-block g l = left l.self ≡ left l.fn.self

abbrev pub decreases-loop-block : goal.decreases-loop-block
decreases-loop-block g l = length l.self.behind.now
