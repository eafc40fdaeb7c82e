use Rattle.std.proofs.lemmas.Result.{IfOk-weaker}
use Rattle.json_pieces.specs.Whole.{taken_text}
use Rattle.json_pieces.proofs.Calls.{value_itself}
use Rattle.json_pieces.proofs.pieces.Pieces.put.Goals as goal

pub returns-clause-added : goal.returns-clause-added
returns-clause-added c = IfOk-weaker c.insert.result _ _ (λ done made. made (taken_text c.args.taken) (value_itself c.args.taken c.requires.taken)) c.insert.ensures.added
