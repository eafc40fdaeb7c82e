use Rattle.std.proofs.Common.{◌+◌, ◌-◌, ◌≤◌}
use Rattle.json_lexemes.specs.Runs.{InRun}
use Rattle.json_lexemes.proofs.lexemes.flat_end.Given as goal

abbrev pub invariant-loop-tested : goal.invariant-loop-tested
invariant-loop-tested l = record {
  inner : l.tested ≤ 16;
  run : InRun l.text l.from (l.from + l.tested);
}

abbrev pub decreases-loop-tested : goal.decreases-loop-tested
decreases-loop-tested l = 16 - l.tested
