use Rattle.std.proofs.Common.{◌==◌, not, get_or, refl, arith}
use Rattle.std.proofs.lemmas.Bool.{agree_below_at}
use Rattle.json_lexemes.specs.Runs.{is_flat}
use Rattle.json_lexemes.specs.declared.lexemes.TheConstants.{KIND}
use Rattle.json_lexemes.proofs.lexemes.is_flat.Goals as goal

pub returns : goal.returns
returns c = rw c.from.ensures (agree_below_at (λ b. not (get_or KIND b 0 == 48)) is_flat 256 c.args.c refl (omega arith))
