use Rattle.std.proofs.Common.{◌==◌, get_or, refl, arith}
use Rattle.std.proofs.lemmas.Bool.{agree_below_at}
use Rattle.json_lexemes.specs.Runs.{is_of_word}
use Rattle.json_lexemes.specs.declared.lexemes.TheConstants.{KIND}
use Rattle.json_lexemes.proofs.lexemes.is_of_word.Goals as goal

pub returns : goal.returns
returns c = rw c.from.ensures (agree_below_at (λ b. get_or KIND b 0 == 50) is_of_word 256 c.args.c refl (omega arith))
