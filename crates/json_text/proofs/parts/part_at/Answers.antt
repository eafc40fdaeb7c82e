use Rattle.std.proofs.Common.{arith}
use Rattle.json_text.proofs.Rows.Reached.{next_reached, none_behind, none_past_last, numbered_there}
use Rattle.json_text.proofs.parts.part_at.Goals as goal

pub returns-then-passed-number-clause-found : goal.returns-then-passed-number-clause-found
returns-then-passed-number-clause-found c = λ cs h.
    let r = c.loop-part.invariant.reached cs h in
    numbered_there c.args.text.now c.args.named cs c.loop-part.passed c.args.number c.loop-part.before c.loop-part.start c.in-Some.part c.if-passed-number.true c.in-Some.ensures.start r (c.in-Some.ensures.part _ r.left) (c.in-Some.ensures.places r.begins)

pub returns-then-passed-number-clause-order : goal.returns-then-passed-number-clause-order
returns-then-passed-number-clause-order c = (omega (arith, c.loop-part.invariant.order, c.in-Some.ensures.start), c.in-Some.ensures.order)

pub returns-then-passed-number-clause-boundary : goal.returns-then-passed-number-clause-boundary
returns-then-passed-number-clause-boundary c = λ u. let b = c.loop-part.invariant.boundary u in (b.0, c.in-Some.ensures.boundary b.1)

pub returns-in_default-next-clause-found : goal.returns-in_default-next-clause-found
returns-in_default-next-clause-found c = λ cs h.
    let r = c.loop-part.invariant.reached cs h in
    none_past_last c.args.text.now c.args.named cs c.loop-part.passed c.args.number c.in-Some.part c.in_default-next.is c.loop-part.invariant.more c.if-passed-number.false (c.in-Some.ensures.part _ r.left)

pub loop-part-init : goal.loop-part-init
loop-part-init c = let a = c.requires.ahead in record { low = a.low; solid = a.solid; order = a.order; passed = a.passed; more = c.requires.passed; boundary = a.boundary; reached = λ cs h. (a.next cs h).reached }

pub loop-part-smaller : goal.loop-part-smaller
loop-part-smaller c =
    let next = rw c.in-Some-next.is at c.in-Some.ensures.order.next in
    omega (arith, next.0, next.1, c.in-Some.ensures.order.named, c.in-Some.ensures.order.value, c.in-Some.ensures.start)

pub loop-part-preserved : goal.loop-part-preserved
loop-part-preserved c =
    let t = c.args.text.now in
    let p = c.in-Some.part in
    let o = c.in-Some.ensures.order in
    let next = rw c.in-Some-next.is at o.next in
    record {
      low = next.1;
      solid = next.2;
      order = omega (arith, next.0);
      passed = omega (arith, c.loop-part.invariant.passed, next.0, o.named, o.value, c.in-Some.ensures.start);
      more = grind (arith, c.loop-part.invariant.more, c.if-passed-number.false);
      boundary = λ u.
          let b = c.in-Some.ensures.boundary (c.loop-part.invariant.boundary u).1 in
          (λ v. (b.value.boundary v).1, rw c.in-Some-next.is at b.next);
      reached = λ cs h.
          let r = c.loop-part.invariant.reached cs h in
          next_reached t c.args.named cs c.loop-part.passed c.loop-part.before c.loop-part.start c.in-Some-next.next p c.in-Some-next.is r (c.in-Some.ensures.part _ r.left) (c.in-Some.ensures.places r.begins);
    }

pub returns-clause-found : goal.returns-clause-found
returns-clause-found c = λ cs h.
    let r = c.loop-part.invariant.reached cs h in
    none_behind c.loop-part.passed c.args.number cs (c.in_default.ensures.part _ r.left) c.loop-part.invariant.more

pub part_from-requires-clause-places : goal.part_from-requires-clause-places
part_from-requires-clause-places c = c.none.ensures c.args.text.now
