use Rattle.std.proofs.Common.{◌<◌, ℕ}
use Rattle.long_vec.specs.Blocks.{HasRoom}
use Rattle.long_vec.proofs.LongVec.has_any_room.Given as goal

-- none before i has room
abbrev pub invariant-loop-i : goal.invariant-loop-i
invariant-loop-i g l = (j : ℕ) → j < l.i → HasRoom l.self.blocks.items j → ⊥
