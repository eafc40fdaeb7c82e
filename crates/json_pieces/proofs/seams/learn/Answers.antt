use Rattle.json_pieces.proofs.Places.{learnt}
use Rattle.json_pieces.proofs.seams.learn.Goals as goal

pub returns : goal.returns
returns c = learnt c.args.seam.now c.as_str.result.now c.in_ok-name.name c.args.index.now c.learn.new.self c.learn.result c.as_str.ensures c.in_ok-name.ensures c.learn.ensures
