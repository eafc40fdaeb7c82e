use Rattle.std.proofs.Common.{◌∙◌, ap, arith, length, refl}
use Rattle.std.specs.List.{insert}
use Rattle.long_vec.specs.Items.{capacity_of, items_of}
use Rattle.json_pieces.specs.Held.{held}
use Rattle.json_pieces.proofs.Backs.{in_done, in_fits, in_room, in_room_values, in_slot, in_within, in_within_values}
use Rattle.json_pieces.proofs.back.back_in.Goals as goal

pub swap_at-requires : goal.swap_at-requires
swap_at-requires c = let (p, b) = c.requires in in_slot c.args.row.now c.args.number c.args.part.0 (held c.args.part.1) c.args.slot c.args.length p b

pub put_back-requires-clause-within : goal.put_back-requires-clause-within
put_back-requires-clause-within c =
    let (p, b) = c.requires in
    omega (arith, c.swap_at.ensures.len, in_within c.args.row.now c.args.number c.args.part.0 (held c.args.part.1) c.args.slot c.args.length p b)

pub put_back-requires-clause-room : goal.put_back-requires-clause-room
put_back-requires-clause-room c =
    let (p, b) = c.requires in
    omega (arith, c.swap_at.ensures.len, c.swap_at.ensures.room, in_room c.args.row.now c.args.number c.args.part.0 (held c.args.part.1) c.args.slot c.args.length p b)

pub put_back-requires-clause-fits : goal.put_back-requires-clause-fits
put_back-requires-clause-fits c =
    let (p, b) = c.requires in
    omega (arith, c.swap_at.ensures.len, in_fits c.args.row.now c.args.number c.args.part.0 (held c.args.part.1) c.args.slot c.args.length p b)

pub put-requires-clause-within : goal.put-requires-clause-within
put-requires-clause-within c =
    let (p, b) = c.requires in
    omega (arith, in_within_values c.args.row.now c.args.number c.args.part.0 (held c.args.part.1) c.args.slot c.args.length p b, ap (λ v. length (items_of v)) c.swap_at.ensures.values)

pub put-requires-clause-room : goal.put-requires-clause-room
put-requires-clause-room c =
    let (p, b) = c.requires in
    omega (arith, in_room_values c.args.row.now c.args.number c.args.part.0 (held c.args.part.1) c.args.slot c.args.length p b, ap (λ v. length (items_of v)) c.swap_at.ensures.values, ap (λ v. capacity_of v) c.swap_at.ensures.values)

pub returns : goal.returns
returns c = λ p b.
    in_done c.args.row.now c.args.number c.args.part.0 (held c.args.part.1) c.args.slot c.args.length p b c.swap_at.new.row.named (capacity_of c.put_back.new.self.all) (capacity_of c.put.new.self) (items_of c.swap_at.new.row.seams.all) (items_of c.put_back.new.self.all) c.swap_at.new.seam c.swap_at.new.row.hollow (items_of c.put.new.self) c.args.part.1
    c.swap_at.ensures.named (c.put_back.ensures.room ∙ c.swap_at.ensures.room) (c.put.ensures.capacity ∙ ap (λ v. capacity_of v) c.swap_at.ensures.values) c.swap_at.ensures.swapped c.put_back.ensures.items refl (c.put.ensures.items ∙ ap (λ v. insert (items_of v) c.args.number c.args.part.1) c.swap_at.ensures.values)
