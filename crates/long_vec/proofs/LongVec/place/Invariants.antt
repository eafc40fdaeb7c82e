use Rattle.std.proofs.Common.{◌≡◌, ◌<◌, ◌≤◌, ◌+◌, ◌-◌, length, take, drop}
use Rattle.long_vec.specs.Blocks.{items_in, IsPlace}
use Rattle.long_vec.proofs.LongVec.place.Given as goal

abbrev pub invariant-loop-k : goal.invariant-loop-k
invariant-loop-k g l =
    (l.number ≡ length (items_in (take l.i l.self.blocks.items)) + l.k) × (l.k ≤ length (items_in (drop l.i l.self.blocks.items))) × (l.i < length l.self.blocks.items)

abbrev pub decreases-loop-k : goal.decreases-loop-k
decreases-loop-k g l = length l.self.blocks.items - l.i

abbrev pub invariant-loop-i : goal.invariant-loop-i
invariant-loop-i g l = IsPlace l.self.blocks.items l.number l.i l.k

abbrev pub decreases-loop-i : goal.decreases-loop-i
decreases-loop-i g l = l.near - l.i
