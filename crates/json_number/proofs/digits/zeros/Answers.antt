use Rattle.json_number.proofs.Powers.{one_more_zero}
use Rattle.json_number.proofs.digits.zeros.Goals as goal

pub loop-i-preserved : goal.loop-i-preserved
loop-i-preserved c = one_more_zero _ _ _ c.numeral_digit.result c.loop-i.i c.loop-i.invariant c.numeral_digit.ensures.value c.if-numeral_digit-ne0.false
