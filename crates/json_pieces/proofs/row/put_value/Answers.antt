use Rattle.std.proofs.Common.{◌∙◌, ap, arith, subst, sym}
use Rattle.long_vec.specs.Items.{capacity_of, items_of}
use Rattle.json_pieces.specs.Held.{row_held}
use Rattle.json_pieces.specs.Nodes.{text_bytes}
use Rattle.json_pieces.proofs.Lists.{pieces_in, set_pieces, value_sound}
use Rattle.json_pieces.proofs.Rows.Puts.{old_fits, value_kept}
use Rattle.json_pieces.proofs.Rows.Steps.{IsKept}
use Rattle.json_pieces.proofs.Opened.{opened_itself}
use Rattle.json_pieces.proofs.Stepped.{on_err, value_again}
use Rattle.json_pieces.proofs.row.put_value.Goals as goal

pub len-requires : goal.len-requires
len-requires c =
    let r = c.args.row.now in
    value_sound (items_of r.seams.all) (items_of r.values) c.args.number c.at.result.now c.requires.sound.1 (omega (arith, c.requires.within)) c.at.ensures

pub resized-requires : goal.resized-requires
resized-requires c =
    let r = c.args.row.now in
    let fits = old_fits r.named r.length (text_bytes r.hollow) (items_of r.seams.all) (items_of r.values) c.args.number c.at.result.now c.requires.sound (omega (arith, c.requires.within)) c.at.ensures in
    omega (arith, fits, c.len.ensures)

pub returns-clause-pieces : goal.returns-clause-pieces
returns-clause-pieces c =
    let r = c.args.row.now in
    ap (λ l. pieces_in (items_of r.seams.all) l) c.exchange-old.ensures.items ∙ set_pieces (items_of r.seams.all) (items_of r.values) c.args.number c.args.value

pub returns-clause-sound : goal.returns-clause-sound
returns-clause-sound c =
    let r = c.args.row.now in
    subst (λ l. IsKept r.named c.in_ok-length.length (text_bytes r.hollow) (items_of r.seams.all) l) (sym c.exchange-old.ensures.items)
    (value_kept r.named r.length c.in_ok-length.length (text_bytes r.hollow) (items_of r.seams.all) (items_of r.values) c.args.number c.at.result.now c.args.value c.requires.sound (omega (arith, c.requires.within)) c.at.ensures c.requires.value
    (omega (arith, c.in_ok-length.ensures, c.len.ensures, c.len-2.ensures)))

pub returns-clause-back : goal.returns-clause-back
returns-clause-back c =
    let r = c.args.row.now in (
      row_held r,
      opened_itself (row_held r),
      value_again r c.args.number c.exchange-old.result c.args.value (omega (arith, c.requires.within)) c.exchange-old.ensures.value (items_of c.exchange-old.new.self) c.in_ok-length.length (capacity_of c.exchange-old.new.self) c.exchange-old.ensures.items c.exchange-old.ensures.capacity,
    )

pub returns-in_err-length-clause-opened : goal.returns-in_err-length-clause-opened
returns-in_err-length-clause-opened c = on_err c.from_residual.result (opened_itself (row_held c.args.row.now))
