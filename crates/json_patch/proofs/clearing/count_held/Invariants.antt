use Rattle.json_patch.proofs.Common.{◌≤◌, ◌+◌, drop}
use Rattle.json_patch.specs.Logged.{held}
use Rattle.json_patch.proofs.clearing.count_held.Given as goal

abbrev pub invariant-loop-change : goal.invariant-loop-change
invariant-loop-change l = l.count + held (drop l.change-index l.changes) ≤ held l.changes
