use Rattle.std.proofs.lemmas.Result.{IfOk-weaker}
use Rattle.json_pieces.proofs.Walks.{put_in, taken_by}
use Rattle.json_pieces.proofs.edit.apply_in.Goals as goal

pub returns-in-Take-clause-makes : goal.returns-in-Take-clause-makes
returns-in-Take-clause-makes c = taken_by c.take.result c.args.edit c.in-Take.name c.args.row.now _ c.requires.sound c.in-Take.is c.take.ensures.taken c.take.ensures.written

pub returns-in-Insert-clause-makes : goal.returns-in-Insert-clause-makes
returns-in-Insert-clause-makes c = IfOk-weaker c.insert.result _ _ (λ found made. put_in c.args.edit c.in-Insert.name c.in-Insert.value c.args.row.now _ found c.requires.sound c.in-Insert.is made) c.insert.ensures.put
