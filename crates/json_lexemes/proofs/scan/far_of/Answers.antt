use Rattle.std.proofs.Common.{ap, arith}
use lib.Count.{count_trailing_zeros}
use Rattle.json_lexemes.proofs.Wide.{free_on, free_load, free_stops}
use Rattle.json_lexemes.proofs.scan.far_of.Goals as goal

pub returns-then-found-ne0 : goal.returns-then-found-ne0
returns-then-found-ne0 g c =
    let p = g.K.Sought.is_sought in
    let t = c.args.text.now in
    let i = c.loop-i.i in
    let found = c.mask-found.ensures in
    let s = free_stops p t i _ (omega arith) (omega (arith, found)) (ap (count_trailing_zeros 64) found) in
    record {
      bounds = (omega arith, omega (arith, s.within));
      free = free_on p t c.args.from i _ c.loop-i.invariant.free s.free;
      stops = λ h. s.stops;
    }

pub loop-i-preserved : goal.loop-i-preserved
loop-i-preserved g c =
    let p = g.K.Sought.is_sought in
    let t = c.args.text.now in
    let i = c.loop-i.i in
    record {
      low = omega arith;
      high = omega arith;
      free = free_on p t c.args.from i _ c.loop-i.invariant.free (free_load p t i (omega arith) (omega (arith, c.mask-found.ensures)));
    }
