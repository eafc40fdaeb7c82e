use Rattle.std.proofs.Common.{arith}
use Rattle.json_number.proofs.Fronts.{in_digits, second_of}
use Rattle.json_number.proofs.digits.numeral_digit.Goals as goal

pub overflow_sub-result-then-i-fraction-2 : goal.overflow_sub-result-then-i-fraction-2
overflow_sub-result-then-i-fraction-2 c = (in_digits _ c.args.i c.fraction-fraction.ensures.digits c.if-i-fraction.true).0

pub returns-then-i-fraction-clause-value : goal.returns-then-i-fraction-clause-value
returns-then-i-fraction-clause-value c = second_of c.args.p.now.whole _ _ c.args.i c.fraction-fraction.ensures.value c.fraction-fraction.ensures.digits c.if-i-fraction.true

pub returns-then-i-fraction-clause-below : goal.returns-then-i-fraction-clause-below
returns-then-i-fraction-clause-below c = omega (arith, in_digits _ c.args.i c.fraction-fraction.ensures.digits c.if-i-fraction.true)
