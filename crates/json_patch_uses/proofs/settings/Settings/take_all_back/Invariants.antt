use Rattle.std.proofs.Common.{length}
use Rattle.serde_json.specs.Data.{Data}
use Rattle.json_patch_uses.specs.Trail.{BeganAs}
use Rattle.json_patch_uses.proofs.settings.Settings.take_all_back.Given as goal

abbrev pub invariant-loop-undo : goal.invariant-loop-undo
invariant-loop-undo l = (first : Data) → BeganAs l.initial.self first → BeganAs l.self first

abbrev pub decreases-loop-undo : goal.decreases-loop-undo
decreases-loop-undo l = length l.self.trail.items
