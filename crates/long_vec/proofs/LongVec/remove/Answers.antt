use Rattle.std.proofs.Common.{slice_set, length, ap, arith}
use Rattle.std.proofs.lemmas.List.Edits.{length-remove}
use Rattle.long_vec.specs.Items.{items_of}
use Rattle.long_vec.proofs.Blocks.{found, removed}
use Rattle.long_vec.proofs.Room.{capacity_same, room_left}
use Rattle.long_vec.proofs.LongVec.remove.Goals as goal

pub returns-clause-value : goal.returns-clause-value
returns-clause-value g c =
    found c.args.self.now.blocks.items c.find-i.result.0 c.args.number c.find-i.result.1 c.find-i.ensures
    c.index_mut.result.now c.index_mut.ensures.value c.remove.result c.remove.ensures.value

pub returns-clause-items : goal.returns-clause-items
returns-clause-items g c =
    removed c.args.self.now.blocks.items c.find-i.result.0 c.args.number c.find-i.result.1 c.find-i.ensures
    c.index_mut.result.now c.index_mut.ensures.value c.remove.new.self c.remove.ensures.items

pub returns-clause-len : goal.returns-clause-len
returns-clause-len g c =
    omega (arith, ap length (returns-clause-items g c), length-remove (items_of c.args.self.now) c.args.number c.requires)

pub returns-clause-capacity : goal.returns-clause-capacity
returns-clause-capacity g c =
    capacity_same c.args.self.now.blocks.items c.find-i.result.0 c.index_mut.result.now c.remove.new.self c.find-i.ensures.block
    c.index_mut.ensures.value c.remove.ensures.capacity

pub returns-clause-room : goal.returns-clause-room
returns-clause-room g c =
    room_left c.args.self.now.blocks.items (slice_set c.args.self.now.blocks.items c.find-i.result.0 c.remove.new.self) c.args.number c.requires
    (returns-clause-items g c) (returns-clause-capacity g c)
