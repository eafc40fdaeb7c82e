use Rattle.std.proofs.Common.{◌∙◌, ◌≡◌, ◌-◌, ◌<◌, ap, arith, length, slice_index_or, slice_set, subst, sym}
use Rattle.std.proofs.lemmas.List.{get_or-set_other, length-set}
use Rattle.long_vec.specs.Blocks.{IsNumberIn, with_put}
use Rattle.long_vec.proofs.Handing.{all_within, handed_back, number_within, put_here, room_stays}
use Rattle.long_vec.proofs.Room.{capacity_same}
use Rattle.long_vec.proofs.LongVec.carry_before.Goals as goal

pub loop-i-preserved : goal.loop-i-preserved
loop-i-preserved g c =
    let bs = c.loop-i.self.blocks.items in
    let i = c.loop-i.i in
    let b = c.index_mut.result.now in
    let new = c.first_out-item.new.block in
    let known = c.loop-i.invariant in
    let last = known.room.block in
    let block : i < length bs = omega arith in
    let after = slice_set bs i new in
    let front = c.index.result.now in
    let here : front ≡ slice_index_or bs (i - 1) front = c.index.ensures ∙ get_or-set_other bs i (i - 1) new front (λ e. omega arith) in
    record {
      block = omega arith;
      order = omega arith;
      room = room_stays bs i c.args.to new (λ e. omega arith) known.room;
      within = subst (IsNumberIn after (i - 1)) (sym c.len-k.ensures) (all_within after (i - 1) front (omega (arith, length-set bs i new)) c.index.ensures);
      items =
          ap (λ n. with_put after (i - 1) n c.first_out-item.result) (c.len-k.ensures ∙ front.ok.0)
          ∙ handed_back bs i c.loop-i.k c.loop-i.item b new block c.index_mut.ensures.value (number_within bs i c.loop-i.k b known.within c.index_mut.ensures.value) (i - 1) front c.first_out-item.result (omega arith) here c.first_out-item.ensures.items ∙ known.items;
      capacity = capacity_same bs i b new block c.index_mut.ensures.value c.first_out-item.ensures.capacity ∙ known.capacity;
    }

pub returns-clause-items : goal.returns-clause-items
returns-clause-items g c =
    let bs = c.loop-i.self.blocks.items in
    let b = c.index_mut-2.result.now in
    let known = c.loop-i.invariant in
    let last = known.room.block in
    let block : c.loop-i.i < length bs = omega arith in
    put_here bs c.loop-i.i c.loop-i.k c.loop-i.item b c.put_in.new.block block c.index_mut-2.ensures.value (number_within bs c.loop-i.i c.loop-i.k b known.within c.index_mut-2.ensures.value) c.put_in.ensures.items ∙ known.items

pub returns-clause-capacity : goal.returns-clause-capacity
returns-clause-capacity g c =
    let bs = c.loop-i.self.blocks.items in
    let last = c.loop-i.invariant.room.block in
    let block : c.loop-i.i < length bs = omega arith in
    capacity_same bs c.loop-i.i c.index_mut-2.result.now c.put_in.new.block block c.index_mut-2.ensures.value c.put_in.ensures.capacity ∙ c.loop-i.invariant.capacity
