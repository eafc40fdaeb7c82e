use Rattle.std.proofs.Common.{◌∙◌, ◌<◌, ◌∷◌, ◌++◌, [], ap, arith, vec_capacity, vec_len}
use Rattle.long_vec.proofs.Room.{capacity_more, room_more}
use Rattle.long_vec.proofs.LongVec.add_block.Goals as goal

pub returns-clause-capacity : goal.returns-clause-capacity
returns-clause-capacity g c =
    capacity_more c.args.self.now.blocks.items c.push.new.self.items c.in_ok-block.block
    (c.in_ok-push.ensures.items ∙ ap (λ l. l ++ c.in_ok-block.block ∷ []) c.in_ok-reserve_block.ensures.items)

pub returns-clause-room : goal.returns-clause-room
returns-clause-room g c =
    let empty : vec_len c.in_ok-block.block < vec_capacity c.in_ok-block.block = omega (arith, c.in_ok-block.ensures.len, c.in_ok-block.ensures.exact) in
    room_more c.args.self.now.blocks.items c.push.new.self.items c.in_ok-block.block
    (c.in_ok-push.ensures.items ∙ ap (λ l. l ++ c.in_ok-block.block ∷ []) c.in_ok-reserve_block.ensures.items) empty
