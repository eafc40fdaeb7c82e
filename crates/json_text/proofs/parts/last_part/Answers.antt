use Rattle.std.proofs.Common.{arith}
use Rattle.json_text.proofs.Rows.Reached.{last_there, next_next, none_at_all}
use Rattle.json_text.proofs.parts.last_part.Goals as goal

pub returns-in_default-next-clause-last : goal.returns-in_default-next-clause-last
returns-in_default-next-clause-last c = λ cs h.
    let r = c.loop-part.invariant.reached cs h in
    last_there c.args.text.now c.args.named cs c.loop-part.number c.loop-part.before c.loop-part.start c.in-Some.part c.in_default-next.is c.in-Some.ensures.start r (c.in-Some.ensures.part _ r.reached.left) (c.in-Some.ensures.places r.reached.begins)

pub returns-in_default-next-clause-order : goal.returns-in_default-next-clause-order
returns-in_default-next-clause-order c = (omega (arith, c.loop-part.invariant.order, c.in-Some.ensures.start), c.in-Some.ensures.order)

pub returns-in_default-next-clause-boundary : goal.returns-in_default-next-clause-boundary
returns-in_default-next-clause-boundary c = λ u. let b = c.loop-part.invariant.boundary u in (b.0, c.in-Some.ensures.boundary b.1)

pub loop-part-smaller : goal.loop-part-smaller
loop-part-smaller c =
    let next = rw c.in-Some-next.is at c.in-Some.ensures.order.next in
    omega (arith, next.0, next.1, c.in-Some.ensures.order.named, c.in-Some.ensures.order.value, c.in-Some.ensures.start)

pub loop-part-init : goal.loop-part-init
loop-part-init c = let a = c.requires in record { low = a.low; solid = a.solid; order = a.order; passed = a.passed; boundary = a.boundary; reached = a.next }

pub loop-part-preserved : goal.loop-part-preserved
loop-part-preserved c =
    let t = c.args.text.now in
    let p = c.in-Some.part in
    let o = c.in-Some.ensures.order in
    let next = rw c.in-Some-next.is at o.next in
    record {
      low = next.1;
      solid = next.2;
      order = omega (arith, next.0);
      passed = omega (arith, c.loop-part.invariant.passed, next.0, o.named, o.value, c.in-Some.ensures.start);
      boundary = λ u.
          let b = c.in-Some.ensures.boundary (c.loop-part.invariant.boundary u).1 in
          (λ v. (b.value.boundary v).1, rw c.in-Some-next.is at b.next);
      reached = λ cs h.
          let r = c.loop-part.invariant.reached cs h in
          next_next t c.args.named cs c.loop-part.number c.loop-part.before c.loop-part.start c.in-Some-next.next p c.in-Some-next.is r (c.in-Some.ensures.part _ r.reached.left) (c.in-Some.ensures.places r.reached.begins);
    }

pub returns-clause-last : goal.returns-clause-last
returns-clause-last c = λ cs h.
    let r = c.loop-part.invariant.reached cs h in
    none_at_all c.args.text.now c.args.named cs c.loop-part.number c.loop-part.before c.loop-part.start r (c.in_default.ensures.part _ r.reached.left)

pub part_from-requires-clause-places : goal.part_from-requires-clause-places
part_from-requires-clause-places c = c.none.ensures c.args.text.now
