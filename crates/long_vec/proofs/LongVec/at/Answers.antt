use Rattle.long_vec.proofs.Blocks.{found}
use Rattle.long_vec.proofs.LongVec.at.Goals as goal

pub returns : goal.returns
returns g c =
    found c.args.self.now.blocks.items c.find-i.result.0 c.args.number c.find-i.result.1 c.find-i.ensures
    c.index.result.now c.index.ensures c.index-2.result.now c.index-2.ensures
