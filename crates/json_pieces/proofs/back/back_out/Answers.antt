use Rattle.std.proofs.Common.{◌∙◌, ap}
use Rattle.long_vec.specs.Items.{capacity_of, items_of}
use Rattle.json_pieces.proofs.Backs.{out_done, out_slot, out_within, out_within_values}
use Rattle.json_pieces.proofs.back.back_out.Goals as goal

pub take-seam-requires : goal.take-seam-requires
take-seam-requires c = let (p, b) = c.requires in out_within c.args.row.now c.args.number c.args.slot c.args.length p b

pub remove-requires : goal.remove-requires
remove-requires c = let (p, b) = c.requires in out_within_values c.args.row.now c.args.number c.args.slot c.args.length p b

pub swap_at-requires : goal.swap_at-requires
swap_at-requires c = let (p, b) = c.requires in out_slot c.args.row.now c.args.number c.args.slot c.args.length p b (items_of c.take-seam.new.self.all) c.take-seam.ensures.items

pub returns : goal.returns
returns c = λ p b.
    out_done c.args.row.now c.args.number c.args.slot c.args.length p b c.swap_at.new.row.named (capacity_of c.swap_at.new.row.seams.all) (capacity_of c.swap_at.new.row.values) (items_of c.take-seam.new.self.all) (items_of c.swap_at.new.row.seams.all) c.take-seam.result c.swap_at.new.seam c.swap_at.new.row.hollow (items_of c.swap_at.new.row.values)
    c.swap_at.ensures.named (c.swap_at.ensures.room ∙ c.take-seam.ensures.room) (ap (λ v. capacity_of v) c.swap_at.ensures.values ∙ c.remove.ensures.capacity) c.take-seam.ensures.items c.take-seam.ensures.value c.swap_at.ensures.swapped (ap (λ v. items_of v) c.swap_at.ensures.values ∙ c.remove.ensures.items)
