use Rattle.json_patch.proofs.Common.{◌≡◌, ◌≤◌, ◌+◌, drop}
use Rattle.json_patch.specs.Logged.{takes}
use Rattle.json_patch.proofs.clearing.count_taken.Given as goal

abbrev pub invariant-loop-change : goal.invariant-loop-change
invariant-loop-change l = record {
  counts : l.count + takes (drop l.change-index l.changes) ≡ takes l.changes;
  fits : l.count ≤ l.change-index;
}
