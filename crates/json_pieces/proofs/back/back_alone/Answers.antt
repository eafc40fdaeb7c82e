use Rattle.std.proofs.Common.{refl}
use Rattle.long_vec.specs.Items.{capacity_of, items_of}
use Rattle.json_pieces.specs.Held.{held}
use Rattle.json_pieces.proofs.Backs.{alone_done, alone_fits, alone_room, alone_room_values}
use Rattle.json_pieces.proofs.back.back_alone.Goals as goal

pub put-requires-clause-room : goal.put-requires-clause-room
put-requires-clause-room c = let (p, b) = c.requires in alone_room c.args.row.now c.args.part.0 (held c.args.part.1) c.args.hollow c.args.length p b

pub put-requires-clause-fits : goal.put-requires-clause-fits
put-requires-clause-fits c = let (p, b) = c.requires in alone_fits c.args.row.now c.args.part.0 (held c.args.part.1) c.args.hollow c.args.length p b

pub put-requires-2-clause-room : goal.put-requires-2-clause-room
put-requires-2-clause-room c = let (p, b) = c.requires in alone_room_values c.args.row.now c.args.part.0 (held c.args.part.1) c.args.hollow c.args.length p b

pub returns : goal.returns
returns c = λ p b.
    alone_done c.args.row.now c.args.part.0 (held c.args.part.1) c.args.hollow c.args.length p b c.args.row.now.named (capacity_of c.put.new.self.all) (capacity_of c.put-2.new.self) (items_of c.put.new.self.all) (items_of c.put-2.new.self) c.args.part.1 refl c.put.ensures.room c.put-2.ensures.capacity c.put.ensures.items refl c.put-2.ensures.items
