use Rattle.std.proofs.Common.{◌<◌, ◌+◌, ℕ}
use Rattle.long_vec.specs.Blocks.{HasRoom}
use Rattle.long_vec.proofs.LongVec.nearest_room.Given as goal

-- none nearer than d has room
abbrev pub invariant-loop-d : goal.invariant-loop-d
invariant-loop-d g l = (j : ℕ) → j < l.i + l.d → l.i < j + l.d → HasRoom l.self.blocks.items j → ⊥
