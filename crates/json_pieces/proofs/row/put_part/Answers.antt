use Rattle.std.proofs.Common.{◌∙◌, ap, arith, refl, subst, sym}
use Rattle.std.specs.List.{insert}
use Rattle.long_vec.specs.Items.{capacity_of, items_of}
use Rattle.json_pieces.specs.Names.{Agrees}
use Rattle.json_pieces.proofs.Places.{still_indexed}
use Rattle.json_pieces.specs.Held.{row_held}
use Rattle.json_pieces.specs.Slots.{AreSwapped, IsPut}
use Rattle.json_pieces.specs.declared.node.Row.{Row}
use Rattle.json_pieces.proofs.Opened.{opened_itself}
use Rattle.json_pieces.proofs.Stepped.{on_err, row_roomier, step_out}
use Rattle.json_pieces.proofs.row.put_part.Goals as goal

pub put-requires-clause-index : goal.put-requires-clause-index
put-requires-clause-index c =
    still_indexed c.args.slot c.args.part.0 c.swap_at.new.seam _ _ (items_of c.ready.new.self.all) (items_of c.swap_at.new.row.seams.all) c.args.number c.in_ok-index.index c.swap_at.ensures.swapped
    (subst (λ ss. Agrees (insert ss c.args.number c.args.part.0) c.in_ok-index.index) (sym c.ready.ensures.items) c.in_ok-index.ensures.index)

pub returns-in_err-make_room-clause-opened : goal.returns-in_err-make_room-clause-opened
returns-in_err-make_room-clause-opened c = on_err c.from_residual-in_err-make_room.result (row_roomier c.args.row.now (record { named = c.args.row.now.named; length = c.args.row.now.length; hollow = c.args.row.now.hollow; seams = c.args.row.now.seams; values = c.make_room.new.self }) refl refl refl refl c.make_room.ensures.items (omega arith) c.make_room.ensures.capacity)

pub returns-in_err-index-clause-opened : goal.returns-in_err-index-clause-opened
returns-in_err-index-clause-opened c = on_err c.from_residual-in_err-index.result (row_roomier c.args.row.now (record { named = c.args.row.now.named; length = c.args.row.now.length; hollow = c.args.row.now.hollow; seams = c.ready.new.self; values = c.make_room.new.self }) refl refl refl c.ready.ensures.items c.make_room.ensures.items c.ready.ensures.capacity c.make_room.ensures.capacity)

pub returns-clause-back : goal.returns-clause-back
returns-clause-back c =
    let s = c.swap_at.new.row in
    let news = c.put.new.self in
    let values = c.put-2.new.self in
    let q : Row = record { named = s.named; length = c.in_ok-length.length; hollow = s.hollow; seams = news; values = values } in
    let put : IsPut c.args.slot c.args.number c.args.row.now c.args.part.0 c.args.part.1 q = record {
      seam = c.swap_at.new.seam;
      seams = items_of s.seams.all;
      swapped = subst (λ l. AreSwapped c.args.slot c.args.part.0 c.args.row.now.hollow l c.swap_at.new.seam s.hollow (items_of s.seams.all)) c.ready.ensures.items c.swap_at.ensures.swapped;
      seams_are = c.put.ensures.items;
      values_are = c.put-2.ensures.items ∙ ap (λ v. insert (items_of v) c.args.number c.args.part.1) c.swap_at.ensures.values ∙ ap (λ l. insert l c.args.number c.args.part.1) c.make_room.ensures.items;
      named = c.swap_at.ensures.named;
      grown = omega (arith, c.in_ok-length.ensures.new, c.in_ok-more.ensures, c.len.ensures, c.commas.ensures);
    } in
    step_out c.args.slot c.args.number c.args.row.now q c.args.part.0 c.args.part.1 put c.requires.seams c.requires.values c.requires.slot (omega (arith, c.ready.ensures.capacity, c.swap_at.ensures.room, c.put.ensures.room)) (omega (arith, c.make_room.ensures.capacity, ap capacity_of c.swap_at.ensures.values, c.put-2.ensures.capacity))

pub returns-in_err-more-clause-opened : goal.returns-in_err-more-clause-opened
returns-in_err-more-clause-opened c = on_err c.from_residual.result (opened_itself (row_held c.args.row.now))

pub returns-in_err-length-clause-opened : goal.returns-in_err-length-clause-opened
returns-in_err-length-clause-opened c = on_err c.from_residual-in_err-length.result (opened_itself (row_held c.args.row.now))
