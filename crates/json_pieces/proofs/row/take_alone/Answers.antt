use Rattle.std.proofs.Common.{arith, subst, sym}
use Rattle.long_vec.specs.Items.{capacity_of, items_of}
use Rattle.json_pieces.specs.Backs.{IsAloneAgain}
use Rattle.json_pieces.specs.Held.{held, row_held}
use Rattle.json_pieces.specs.Names.{text_bytes}
use Rattle.json_pieces.proofs.Lists.{seams_are}
use Rattle.json_pieces.proofs.Rows.Steps.{IsKept, alone_kept, alone_pieces}
use Rattle.json_pieces.proofs.Stepped.{alone_again}
use Rattle.json_pieces.proofs.row.take_alone.Goals as goal

pub returns-clause-pieces : goal.returns-clause-pieces
returns-clause-pieces c =
    let r = c.args.row.now in
    alone_pieces (items_of r.seams.all) (items_of c.remove-seam.new.self.all) (items_of r.values) (items_of c.remove-value.new.self) c.requires.sound.1 (omega (arith, c.requires.alone)) c.remove-seam.ensures.items c.remove-value.ensures.items

pub returns-clause-sound : goal.returns-clause-sound
returns-clause-sound c =
    let r = c.args.row.now in
    subst (λ h. IsKept r.named 2 (text_bytes h) (items_of c.remove-seam.new.self.all) (items_of c.remove-value.new.self)) (sym c.replace-hollow.ensures.after)
    (alone_kept r.named r.length _ (items_of r.seams.all) (items_of c.remove-seam.new.self.all) (items_of r.values) (items_of c.remove-value.new.self) c.requires.sound (omega (arith, c.requires.alone)) c.remove-seam.ensures.items c.remove-value.ensures.items)

pub returns-clause-back : goal.returns-clause-back
returns-clause-back c =
    let r = c.args.row.now in
    let one = seams_are (items_of r.seams.all) (items_of r.values) c.requires.sound.1 in
    let now = row_held (record { named = r.named; length = 2; hollow = c.replace-hollow.new.dest; seams = c.remove-seam.new.self; values = c.remove-value.new.self }) in
    subst (λ h. IsAloneAgain c.remove-seam.result (held c.remove-value.result) h r.length now (row_held r)) (sym c.replace-hollow.ensures.value)
    (alone_again r c.remove-seam.result c.remove-value.result (items_of c.remove-seam.new.self.all) (items_of c.remove-value.new.self) c.replace-hollow.new.dest 2 (capacity_of c.remove-seam.new.self.all) (capacity_of c.remove-value.new.self) (omega (arith, one, c.requires.alone)) (omega (arith, c.requires.alone)) c.remove-seam.ensures.value c.remove-value.ensures.value c.remove-seam.ensures.items c.remove-value.ensures.items
    c.remove-seam.ensures.capacity c.remove-value.ensures.capacity c.remove-seam.ensures.room c.remove-value.ensures.room c.remove-seam.ensures.len c.remove-value.ensures.len)
