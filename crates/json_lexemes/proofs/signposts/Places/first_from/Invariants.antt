use Rattle.std.proofs.Common.{◌-◌, ◌≤◌, length}
use Rattle.json_lexemes.proofs.signposts.Places.first_from.Given as goal

abbrev pub invariant-loop-low : goal.invariant-loop-low
invariant-loop-low l = record {
  high : l.high ≤ length l.self.spans.now;
}

abbrev pub decreases-loop-low : goal.decreases-loop-low
decreases-loop-low l = l.high - l.low
