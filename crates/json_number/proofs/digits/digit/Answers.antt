use Rattle.std.proofs.Common.{arith}
use Rattle.json_number.proofs.Fronts.{in_digits, front_step}
use Rattle.json_number.proofs.digits.digit.Goals as goal

pub overflow_sub-result-then-i-ds-2 : goal.overflow_sub-result-then-i-ds-2
overflow_sub-result-then-i-ds-2 c = (in_digits c.args.ds.now c.args.i c.requires c.if-i-ds.true).0

pub returns-then-i-ds-clause-value : goal.returns-then-i-ds-clause-value
returns-then-i-ds-clause-value c = front_step c.args.ds.now c.args.i c.requires c.if-i-ds.true

pub returns-then-i-ds-clause-below : goal.returns-then-i-ds-clause-below
returns-then-i-ds-clause-below c = omega (arith, in_digits c.args.ds.now c.args.i c.requires c.if-i-ds.true)
