use Rattle.std.proofs.Common.{arith}
use Rattle.jsonptr.specs.Pointers.{tokens_of}
use Rattle.jsonptr.proofs.Texts.{length-tokens-le}
use Rattle.jsonptr.proofs.pointer.Pointer.tokens.Goals as goal

pub returns-clause-fits : goal.returns-clause-fits
unfolding tokens_of
returns-clause-fits c = rw c.new.ensures (omega (arith, length-tokens-le c.args.self.now.text.now))
