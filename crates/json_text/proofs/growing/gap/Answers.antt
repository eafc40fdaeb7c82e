use Rattle.std.proofs.Common.{arith}
use Rattle.std.proofs.lemmas.Str.{IsCharBoundary-after_ascii}
use Rattle.json_text.proofs.Rows.Gaps.{comma_there, first_gap, later_gap}
use Rattle.json_text.proofs.growing.gap.Goals as goal

pub returns-then-number-eq0-clause-gap : goal.returns-then-number-eq0-clause-gap
returns-then-number-eq0-clause-gap c = first_gap c.args.text.now c.args.number c.args.found c.if-number-eq0.true c.requires.order c.requires.child

pub returns-else-number-eq0-clause-gap : goal.returns-else-number-eq0-clause-gap
returns-else-number-eq0-clause-gap c = later_gap c.args.text.now c.args.number c.args.found c.whitespace_end.result c.if-number-eq0.false c.whitespace_end.ensures.left c.whitespace_end.ensures.end c.whitespace_end.ensures.stops c.whitespace_end.ensures.bounds.1 c.requires.child

pub returns-else-number-eq0-clause-boundary : goal.returns-else-number-eq0-clause-boundary
returns-else-number-eq0-clause-boundary c = λ b u.
    let p = comma_there c.args.text.now c.args.number c.args.found c.whitespace_end.result c.if-number-eq0.false c.whitespace_end.ensures.left c.whitespace_end.ensures.end c.whitespace_end.ensures.stops c.whitespace_end.ensures.bounds.1 c.requires.child in
    IsCharBoundary-after_ascii c.args.text.now c.whitespace_end.result u p.0 (omega (arith, p.1))
