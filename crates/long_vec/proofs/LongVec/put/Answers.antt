use Rattle.std.proofs.Common.{◌∙◌}
use Rattle.long_vec.proofs.Handing.{put_at}
use Rattle.long_vec.proofs.LongVec.put.Goals as goal

pub returns-then-i-to-clause-items : goal.returns-then-i-to-clause-items
returns-then-i-to-clause-items g c =
    c.carry_behind.ensures.items ∙ put_at c.args.self.now.blocks.items c.args.number c.place-i.result.0 c.place-i.result.1 c.args.item c.place-i.ensures

pub returns-else-i-to-clause-items : goal.returns-else-i-to-clause-items
returns-else-i-to-clause-items g c =
    c.carry_before.ensures.items ∙ put_at c.args.self.now.blocks.items c.args.number c.place-i.result.0 c.place-i.result.1 c.args.item c.place-i.ensures
