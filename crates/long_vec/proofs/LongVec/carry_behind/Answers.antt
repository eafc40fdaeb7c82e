use Rattle.std.proofs.Common.{◌∙◌, ◌<◌, arith, length}
use Rattle.long_vec.proofs.Handing.{handed_on, number_within, put_here, room_stays}
use Rattle.long_vec.proofs.Room.{capacity_same}
use Rattle.long_vec.proofs.LongVec.carry_behind.Goals as goal

pub loop-i-preserved : goal.loop-i-preserved
loop-i-preserved g c =
    let bs = c.loop-i.self.blocks.items in
    let i = c.loop-i.i in
    let b = c.index_mut.result.now in
    let new = c.last_out-item.new.block in
    let known = c.loop-i.invariant in
    let last = known.room.block in
    let block : i < length bs = omega arith in
    record {
      order = omega arith;
      room = room_stays bs i c.args.to new (λ e. omega arith) known.room;
      within = λ d. omega arith;
      items = handed_on bs i c.loop-i.k c.loop-i.item b new block c.index_mut.ensures.value (number_within bs i c.loop-i.k b known.within c.index_mut.ensures.value) c.last_out-item.result c.last_out-item.ensures.items ∙ known.items;
      capacity = capacity_same bs i b new block c.index_mut.ensures.value c.last_out-item.ensures.capacity ∙ known.capacity;
    }

pub returns-clause-items : goal.returns-clause-items
returns-clause-items g c =
    let bs = c.loop-i.self.blocks.items in
    let b = c.index_mut-2.result.now in
    let known = c.loop-i.invariant in
    let last = known.room.block in
    let block : c.loop-i.i < length bs = omega arith in
    put_here bs c.loop-i.i c.loop-i.k c.loop-i.item b c.put_in.new.block block c.index_mut-2.ensures.value (number_within bs c.loop-i.i c.loop-i.k b known.within c.index_mut-2.ensures.value) c.put_in.ensures.items ∙ known.items

pub returns-clause-capacity : goal.returns-clause-capacity
returns-clause-capacity g c =
    let bs = c.loop-i.self.blocks.items in
    let last = c.loop-i.invariant.room.block in
    let block : c.loop-i.i < length bs = omega arith in
    capacity_same bs c.loop-i.i c.index_mut-2.result.now c.put_in.new.block block c.index_mut-2.ensures.value c.put_in.ensures.capacity ∙ c.loop-i.invariant.capacity
