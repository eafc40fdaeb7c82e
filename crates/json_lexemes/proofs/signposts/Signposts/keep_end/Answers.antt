use Rattle.std.proofs.Common.{arith}
use Rattle.json_lexemes.proofs.signposts.Signposts.keep_end.Goals as goal

pub returns-clause-signposts : goal.returns-clause-signposts
returns-clause-signposts c = λ t a s. record { spans = c.insert.ensures t a.spans s; steps = a.steps; room = (omega arith, a.room.1) }
