use Rattle.std.proofs.Common.{◌≡◌, ◌<◌, ◌≤◌, ◌-◌, vec_len}
use Rattle.long_vec.specs.Blocks.{HasRoom, IsNumberIn, capacity_in, with_put}
use Rattle.long_vec.proofs.LongVec.carry_before.Given as goal

abbrev pub invariant-loop-i : goal.invariant-loop-i
invariant-loop-i g l = record {
  block : l.i < vec_len l.self.blocks;
  order : l.to ≤ l.i;
  room : HasRoom l.self.blocks.items l.to;
  within : IsNumberIn l.self.blocks.items l.i l.k;
  items : with_put l.self.blocks.items l.i l.k l.item ≡ with_put l.fn.self.blocks.items l.fn.i l.fn.k l.fn.item;
  capacity : capacity_in l.self.blocks.items ≡ capacity_in l.fn.self.blocks.items;
}

abbrev pub decreases-loop-i : goal.decreases-loop-i
decreases-loop-i g l = l.i - l.to
