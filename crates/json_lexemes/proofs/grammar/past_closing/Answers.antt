use Rattle.std.proofs.Common.{arith}
use Rattle.json_lexemes.proofs.Completed.{next_on, closing_on}
use Rattle.json_lexemes.proofs.grammar.past_closing.Goals as goal

pub returns-then-more-clause-next : goal.returns-then-more-clause-next
returns-then-more-clause-next c = λ h. (
  omega (arith, c.loop-nested.invariant.low, c.in_ok-next.ensures.bounds),
  λ n b. c.loop-nested.invariant.follows n (next_on c.args.text.now c.args.nest.objects.now _ c.loop-nested.nested c.loop-nested.i c.in_ok-next.next h (c.in_ok-next.ensures.next c.if-more.true) b),
)

pub returns-then-more-clause-ahead : goal.returns-then-more-clause-ahead
returns-then-more-clause-ahead c = λ w _.
    let e = c.in_ok-next.ensures in
    c.go_on.ensures w c.args.text.now c.loop-nested.i (c.loop-nested.invariant.behind w) e.bounds.0 e.bounds.1 (λ array. e.comma c.if-more.true array c.loop-nested.invariant.end) (e.next c.if-more.true)

pub returns-then-more-clause-signposts : goal.returns-then-more-clause-signposts
returns-then-more-clause-signposts c = λ w.
    let e = c.in_ok-next.ensures in
    (c.go_on.ensures w c.args.text.now c.loop-nested.i (c.loop-nested.invariant.behind w) e.bounds.0 e.bounds.1 (λ array. e.comma c.if-more.true array c.loop-nested.invariant.end) (e.next c.if-more.true)).signposts

pub loop-nested-preserved : goal.loop-nested-preserved
loop-nested-preserved c =
    let m = c.loop-nested.nested in
    let e = c.in_ok-next.ensures in
    record {
      low = omega (arith, c.loop-nested.invariant.low, e.bounds);
      high = e.bounds.1;
      fewer = omega (arith, c.loop-nested.invariant.fewer);
      end = e.end c.loop-nested.invariant.end;
      behind = λ w. c.leave.ensures w c.args.text.now _ c.loop-nested.i (c.loop-nested.invariant.behind w) e.bounds.0 e.bounds.1 (e.bracket c.if-more.false c.loop-nested.invariant.end) (e.closes c.if-more.false);
      stops = e.stops;
      follows = λ n b. c.loop-nested.invariant.follows n (closing_on c.args.text.now c.args.nest.objects.now n c.args.nest.depth m c.loop-nested.i c.in_ok-next.next c.loop-nested-test.true c.loop-nested.invariant.fewer (e.closes c.if-more.false) b);
    }
