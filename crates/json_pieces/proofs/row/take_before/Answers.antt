use Rattle.std.proofs.Common.{◌+◌, ◌-◌, arith, ap, refl, subst, sym, ◌∙◌}
use Rattle.long_vec.specs.Items.{capacity_of, items_of}
use Rattle.json_pieces.specs.Exchanges.{with_whitespace}
use Rattle.json_pieces.specs.Nodes.{text_bytes}
use Rattle.json_pieces.specs.declared.row.Slot.TheVariants.{Whitespace}
use Rattle.json_pieces.proofs.Lists.{pieces_in, seams_are, value_sound}
use Rattle.json_pieces.proofs.Rows.Steps.{IsKept, IsOut, next_kept, next_pieces, next_size, next_some}
use Rattle.json_pieces.proofs.Stepped.{in_again}
use Rattle.json_pieces.proofs.row.take_before.Goals as goal

pub remove-seam-requires : goal.remove-seam-requires
remove-seam-requires c =
    let r = c.args.row.now in
    omega (arith, seams_are (items_of r.seams.all) (items_of r.values) c.requires.sound.1, c.requires.within)

pub swap_whitespace-requires : goal.swap_whitespace-requires
swap_whitespace-requires c =
    let r = c.args.row.now in
    omega (arith, seams_are (items_of r.seams.all) (items_of r.values) c.requires.sound.1, c.requires.within, c.remove-seam.ensures.len)

pub len-requires : goal.len-requires
len-requires c =
    let r = c.args.row.now in
    let out : IsOut (items_of r.seams.all) (items_of c.remove-seam.new.self.all) (items_of r.values) (items_of c.remove-value.new.self) c.args.number c.remove-seam.result c.swap_whitespace.ensures.whitespace.seam c.remove-value.result c.args.number = record {
      seams = c.remove-seam.ensures.items;
      values = c.remove-value.ensures.items;
      seam = c.remove-seam.ensures.value;
      value = c.remove-value.ensures.value;
      other = c.swap_whitespace.ensures.whitespace.is;
    } in
    let size = next_size r.named r.length _ (items_of r.seams.all) (items_of c.remove-seam.new.self.all) (items_of r.values) (items_of c.remove-value.new.self) c.args.number c.remove-seam.result c.swap_whitespace.ensures.whitespace.seam c.remove-value.result c.remove-seam.result.whitespace c.swap_whitespace.new.whitespace c.requires.sound
    (omega (arith, c.requires.within)) out c.swap_whitespace.ensures.whitespace.taken_is in
    omega (arith, size)

pub len-requires-2 : goal.len-requires-2
len-requires-2 c =
    let r = c.args.row.now in
    value_sound (items_of r.seams.all) (items_of r.values) c.args.number c.remove-value.result c.requires.sound.1 (omega (arith, c.requires.within)) c.remove-value.ensures.value

pub overflow_add-row : goal.overflow_add-row
overflow_add-row c =
    let r = c.args.row.now in
    let out : IsOut (items_of r.seams.all) (items_of c.remove-seam.new.self.all) (items_of r.values) (items_of c.remove-value.new.self) c.args.number c.remove-seam.result c.swap_whitespace.ensures.whitespace.seam c.remove-value.result c.args.number = record {
      seams = c.remove-seam.ensures.items;
      values = c.remove-value.ensures.items;
      seam = c.remove-seam.ensures.value;
      value = c.remove-value.ensures.value;
      other = c.swap_whitespace.ensures.whitespace.is;
    } in
    let size = next_size r.named r.length _ (items_of r.seams.all) (items_of c.remove-seam.new.self.all) (items_of r.values) (items_of c.remove-value.new.self) c.args.number c.remove-seam.result c.swap_whitespace.ensures.whitespace.seam c.remove-value.result c.remove-seam.result.whitespace c.swap_whitespace.new.whitespace c.requires.sound
    (omega (arith, c.requires.within)) out c.swap_whitespace.ensures.whitespace.taken_is in
    omega (arith, size, c.len.ensures, c.len-2.ensures)

pub overflow_add-row-2 : goal.overflow_add-row-2
overflow_add-row-2 c =
    let r = c.args.row.now in
    let out : IsOut (items_of r.seams.all) (items_of c.remove-seam.new.self.all) (items_of r.values) (items_of c.remove-value.new.self) c.args.number c.remove-seam.result c.swap_whitespace.ensures.whitespace.seam c.remove-value.result c.args.number = record {
      seams = c.remove-seam.ensures.items;
      values = c.remove-value.ensures.items;
      seam = c.remove-seam.ensures.value;
      value = c.remove-value.ensures.value;
      other = c.swap_whitespace.ensures.whitespace.is;
    } in
    let size = next_size r.named r.length _ (items_of r.seams.all) (items_of c.remove-seam.new.self.all) (items_of r.values) (items_of c.remove-value.new.self) c.args.number c.remove-seam.result c.swap_whitespace.ensures.whitespace.seam c.remove-value.result c.remove-seam.result.whitespace c.swap_whitespace.new.whitespace c.requires.sound
    (omega (arith, c.requires.within)) out c.swap_whitespace.ensures.whitespace.taken_is in
    omega (arith, size, c.len.ensures, c.len-2.ensures)

pub overflow_sub-row : goal.overflow_sub-row
overflow_sub-row c =
    let r = c.args.row.now in
    let out : IsOut (items_of r.seams.all) (items_of c.remove-seam.new.self.all) (items_of r.values) (items_of c.remove-value.new.self) c.args.number c.remove-seam.result c.swap_whitespace.ensures.whitespace.seam c.remove-value.result c.args.number = record {
      seams = c.remove-seam.ensures.items;
      values = c.remove-value.ensures.items;
      seam = c.remove-seam.ensures.value;
      value = c.remove-value.ensures.value;
      other = c.swap_whitespace.ensures.whitespace.is;
    } in
    let size = next_size r.named r.length _ (items_of r.seams.all) (items_of c.remove-seam.new.self.all) (items_of r.values) (items_of c.remove-value.new.self) c.args.number c.remove-seam.result c.swap_whitespace.ensures.whitespace.seam c.remove-value.result c.remove-seam.result.whitespace c.swap_whitespace.new.whitespace c.requires.sound
    (omega (arith, c.requires.within)) out c.swap_whitespace.ensures.whitespace.taken_is in
    omega (arith, size, c.len.ensures, c.len-2.ensures)

pub returns-clause-pieces : goal.returns-clause-pieces
returns-clause-pieces c =
    let r = c.args.row.now in
    let out : IsOut (items_of r.seams.all) (items_of c.remove-seam.new.self.all) (items_of r.values) (items_of c.remove-value.new.self) c.args.number c.remove-seam.result c.swap_whitespace.ensures.whitespace.seam c.remove-value.result c.args.number = record {
      seams = c.remove-seam.ensures.items;
      values = c.remove-value.ensures.items;
      seam = c.remove-seam.ensures.value;
      value = c.remove-value.ensures.value;
      other = c.swap_whitespace.ensures.whitespace.is;
    } in
    ap (λ l. pieces_in l (items_of c.remove-value.new.self)) c.swap_whitespace.ensures.whitespace.left ∙ next_pieces r.named r.length _ (items_of r.seams.all) (items_of c.remove-seam.new.self.all) (items_of r.values) (items_of c.remove-value.new.self) c.args.number c.remove-seam.result c.swap_whitespace.ensures.whitespace.seam c.remove-value.result c.remove-seam.result.whitespace c.swap_whitespace.new.whitespace c.requires.sound (omega (arith, c.requires.within)) out refl

pub returns-clause-some : goal.returns-clause-some
returns-clause-some c =
    let r = c.args.row.now in
    let out : IsOut (items_of r.seams.all) (items_of c.remove-seam.new.self.all) (items_of r.values) (items_of c.remove-value.new.self) c.args.number c.remove-seam.result c.swap_whitespace.ensures.whitespace.seam c.remove-value.result c.args.number = record {
      seams = c.remove-seam.ensures.items;
      values = c.remove-value.ensures.items;
      seam = c.remove-seam.ensures.value;
      value = c.remove-value.ensures.value;
      other = c.swap_whitespace.ensures.whitespace.is;
    } in
    λ e. next_some r.named r.length _ (items_of r.seams.all) (items_of c.remove-seam.new.self.all) (items_of r.values) (items_of c.remove-value.new.self) c.args.number c.remove-seam.result c.swap_whitespace.ensures.whitespace.seam c.remove-value.result c.remove-seam.result.whitespace c.swap_whitespace.new.whitespace c.requires.sound (omega (arith, c.requires.within)) out refl
    (omega (arith, c.remove-value.ensures.len, c.requires.within)) e

pub returns-clause-sound : goal.returns-clause-sound
returns-clause-sound c =
    let r = c.args.row.now in
    let out : IsOut (items_of r.seams.all) (items_of c.remove-seam.new.self.all) (items_of r.values) (items_of c.remove-value.new.self) c.args.number c.remove-seam.result c.swap_whitespace.ensures.whitespace.seam c.remove-value.result c.args.number = record {
      seams = c.remove-seam.ensures.items;
      values = c.remove-value.ensures.items;
      seam = c.remove-seam.ensures.value;
      value = c.remove-value.ensures.value;
      other = c.swap_whitespace.ensures.whitespace.is;
    } in
    let size = next_size r.named r.length _ (items_of r.seams.all) (items_of c.remove-seam.new.self.all) (items_of r.values) (items_of c.remove-value.new.self) c.args.number c.remove-seam.result c.swap_whitespace.ensures.whitespace.seam c.remove-value.result c.remove-seam.result.whitespace c.swap_whitespace.new.whitespace c.requires.sound
    (omega (arith, c.requires.within)) out c.swap_whitespace.ensures.whitespace.taken_is in
    subst (λ l. IsKept r.named (r.length - (c.len.result + c.len-2.result + 1)) (text_bytes r.hollow) l (items_of c.remove-value.new.self)) (sym c.swap_whitespace.ensures.whitespace.left)
    (next_kept r.named r.length _ (items_of r.seams.all) (items_of c.remove-seam.new.self.all) (items_of r.values) (items_of c.remove-value.new.self) c.args.number c.remove-seam.result c.swap_whitespace.ensures.whitespace.seam c.remove-value.result c.remove-seam.result.whitespace c.swap_whitespace.new.whitespace (r.length - (c.len.result + c.len-2.result + 1)) c.requires.sound (omega (arith, c.requires.within)) out refl c.swap_whitespace.ensures.whitespace.taken_is
    (omega (arith, size, c.len.ensures, c.len-2.ensures)))

pub returns-clause-back : goal.returns-clause-back
returns-clause-back c =
    let r = c.args.row.now in
    let s = c.remove-seam.result in
    let t = with_whitespace c.swap_whitespace.new.whitespace s in
    in_again r c.args.number s c.remove-value.result (items_of c.remove-seam.new.self.all) (items_of c.remove-value.new.self) (omega (arith, seams_are (items_of r.seams.all) (items_of r.values) c.requires.sound.1, c.requires.within)) (omega (arith, c.requires.within)) c.remove-seam.ensures.value c.remove-value.ensures.value c.remove-seam.ensures.items c.remove-value.ensures.items
    (Whitespace c.args.number) t r.hollow (items_of c.swap_whitespace.new.self.all) _ (capacity_of c.swap_whitespace.new.self.all) (capacity_of c.remove-value.new.self) (omega (arith, seams_are (items_of r.seams.all) (items_of r.values) c.requires.sound.1, c.remove-seam.ensures.len, c.requires)) (refl, refl, c.swap_whitespace.ensures.whitespace) (c.swap_whitespace.ensures.room ∙ c.remove-seam.ensures.capacity) c.remove-value.ensures.capacity (omega (arith, c.remove-seam.ensures.room, c.swap_whitespace.ensures.room)) c.remove-value.ensures.room c.remove-seam.ensures.fits c.remove-seam.ensures.len c.remove-value.ensures.len
