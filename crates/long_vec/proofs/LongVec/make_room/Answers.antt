use Rattle.std.proofs.Common.{◌<◌, ◌≤◌, ◌+◌, arith, refl, ℕ}
use Rattle.long_vec.proofs.Room.{capacity_grows, on_ok, room_in}
use Rattle.long_vec.proofs.Splits.{room_here, same_items}
use Rattle.long_vec.proofs.LongVec.make_room.Goals as goal

pub returns-then-has_room-clause-room : goal.returns-then-has_room-clause-room
returns-then-has_room-clause-room g c = room_in c.args.self.now.blocks.items c.place-i.result.0 (c.if-has_room.ensures.0 refl)

pub returns-then-len-lt-BLOCK-clause-items : goal.returns-then-len-lt-BLOCK-clause-items
returns-then-len-lt-BLOCK-clause-items g c =
    same_items c.args.self.now.blocks.items c.place-i.result.0 c.index_mut.result.now c.place-i.ensures.block c.index_mut.ensures.value c.reserve.new.self c.reserve.ensures.items

pub returns-then-len-lt-BLOCK-clause-capacity : goal.returns-then-len-lt-BLOCK-clause-capacity
returns-then-len-lt-BLOCK-clause-capacity g c =
    capacity_grows c.args.self.now.blocks.items c.place-i.result.0 c.index_mut.result.now c.reserve.new.self c.place-i.ensures.block c.index_mut.ensures.value c.reserve.ensures.capacity

pub returns-then-len-lt-BLOCK-clause-room : goal.returns-then-len-lt-BLOCK-clause-room
returns-then-len-lt-BLOCK-clause-room g c =
    on_ok c.reserve.result c.reserve.ensures.ok (λ more. room_in _ c.place-i.result.0
    (room_here c.args.self.now.blocks.items c.place-i.result.0 c.index_mut.result.now c.place-i.ensures.block c.index_mut.ensures.value c.reserve.new.self (less _ _ more)))
  where
    less : (n m : ℕ) → n + 1 ≤ m → n < m
    less n m more = omega arith
