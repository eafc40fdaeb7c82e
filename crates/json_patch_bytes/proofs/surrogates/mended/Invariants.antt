use Rattle.std.proofs.Common.{length, take, ◌-◌, ◌≤◌}
use Rattle.json_patch_bytes.specs.Surrogates.{IsMended}
use Rattle.json_patch_bytes.proofs.surrogates.mended.Given as goal

-- what is before the place is mended
abbrev pub invariant-loop-at : goal.invariant-loop-at
invariant-loop-at l = (l.at ≤ length l.text) × IsMended (take l.at l.text) l.new.items

abbrev pub decreases-loop-at : goal.decreases-loop-at
decreases-loop-at l = length l.text - l.at
