use Rattle.std.proofs.Common.{arith}
use Rattle.json_text.proofs.Rows.Reached.{next_named}
use Rattle.json_text.proofs.parts.last_named.Goals as goal

pub loop-part-smaller : goal.loop-part-smaller
loop-part-smaller c =
    let next = rw c.in-Some-next.is at c.in-Some.ensures.order.next in
    omega (arith, next.0, next.1, c.in-Some.ensures.order.named, c.in-Some.ensures.order.value, c.in-Some.ensures.start)

pub loop-part-preserved : goal.loop-part-preserved
loop-part-preserved c =
    let o = c.in-Some.ensures.order in
    let next = rw c.in-Some-next.is at o.next in
    record {
      low = next.1;
      solid = next.2;
      passed = omega (arith, c.loop-part.invariant.passed, next.0, o.named, o.value, c.in-Some.ensures.start);
      ahead = λ cs e.
          let a = c.loop-part.invariant.ahead cs e in
          next_named c.args.text.now c.args.name.now cs c.loop-part.number c.loop-part.start c.in-Some-next.next c.loop-part.found c.latest-found.result c.is_name.result c.in-Some.part c.in-Some-next.is c.in-Some.ensures.start c.is_name.ensures c.latest-found.ensures a (c.in-Some.ensures.part _ a.0);
    }

pub part_from-requires-clause-places : goal.part_from-requires-clause-places
part_from-requires-clause-places c = c.none.ensures c.args.text.now
