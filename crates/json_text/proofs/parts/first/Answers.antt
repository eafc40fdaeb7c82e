use Rattle.std.proofs.Common.{arith}
use Rattle.json_text.proofs.Rows.Reached.{first_next}
use Rattle.json_text.proofs.parts.first.Goals as goal

pub returns-clause-ahead : goal.returns-clause-ahead
returns-clause-ahead c = λ b. record {
  low = c.whitespace_end-start.ensures.bounds.1;
  solid = c.whitespace_end-start.ensures.stops;
  order = c.whitespace_end-start.ensures.bounds.0;
  passed = omega arith;
  boundary = λ u. (u, λ v. c.whitespace_end-start.ensures.boundary v (u v));
  next = λ cs h. first_next c.args.text.now b cs c.args.from c.whitespace_end-start.result c.whitespace_end-start.ensures.left c.whitespace_end-start.ensures.between h;
}
