use Rattle.std.proofs.Common.{arith}
use Rattle.json_text.proofs.Ways.{close_next}
use Rattle.json_text.proofs.children.arrays_end.Goals as goal

pub loop-left-preserved : goal.loop-left-preserved
loop-left-preserved c = record {
  low = omega (arith, c.loop-left.invariant.low, c.array_end-end.ensures.bounds);
  high = c.array_end-end.ensures.bounds.1;
  ends = c.array_end-end.ensures.end;
  still = λ ls e. close_next c.args.text.now c.loop-left.left c.loop-left.end c.array_end-end.result ls c.loop-left-test.true c.array_end-end.ensures.left (c.loop-left.invariant.still ls e);
}
