use Rattle.std.proofs.Common.{◌≡◌, ◌≤◌, ◌<◌, ◌+◌, ◌^◌, Bool, true, ℕ, length, slice_index_or, take}
use Rattle.std.specs.Fn.{ComputesKey}
use Rattle.long_vec.specs.Blocks.{items_in}
use Rattle.long_vec.proofs.LongVec.partition_point.Given as goal

abbrev pub invariant-loop-i : goal.invariant-loop-i
invariant-loop-i g l = record {
  callable : goal.P-IsAlwaysCallable g l.pred;
  bound : l.before ≤ length (items_in (take l.i l.self.blocks.items));
  counted : length (items_in l.self.blocks.items) < 2 ^ 64 → l.before ≡ length (items_in (take l.i l.self.blocks.items));
  answers : (p : g.row.T.Denot → Bool) → ComputesKey g.P.FnMut p l.initial.pred → ComputesKey g.P.FnMut p l.pred
      × ((k : ℕ) (d : g.row.T.Denot) → k + 1 ≡ length (items_in (take l.i l.self.blocks.items)) → p (slice_index_or (items_in l.self.blocks.items) k d) ≡ true);
}
