use Rattle.std.proofs.Common.{◌≡◌, length, ap, ◌∙◌, arith}
use Rattle.std.proofs.lemmas.Result.{on_ok_weaker}
use Rattle.long_vec.specs.Items.{items_of}
use Rattle.json_pieces.specs.Nodes.{text_bytes}
use Rattle.json_pieces.proofs.Lists.{seams_are}
use Rattle.json_pieces.proofs.Rows.Parted.{element_before_pieces, element_before_sound}
use Rattle.json_pieces.proofs.Rows.Puts.{IsLike}
use Rattle.json_pieces.specs.Held.{row_held}
use Rattle.json_pieces.proofs.Opened.{opened_itself}
use Rattle.json_pieces.proofs.Stepped.{on_err}
use Rattle.json_pieces.proofs.row.element_before.Goals as goal

pub at-requires : goal.at-requires
at-requires c =
    let r = c.args.row.now in
    omega (arith, seams_are (items_of r.seams.all) (items_of r.values) c.requires.sound.1, c.like_number-like.ensures.within, c.count.ensures)

pub put_part-requires-clause-seams : goal.put_part-requires-clause-seams
put_part-requires-clause-seams c =
    let r = c.args.row.now in
    omega (arith, seams_are (items_of r.seams.all) (items_of r.values) c.requires.sound.1, c.requires.within)

pub put_part-requires-clause-slot : goal.put_part-requires-clause-slot
put_part-requires-clause-slot c =
    let r = c.args.row.now in
    omega (arith, seams_are (items_of r.seams.all) (items_of r.values) c.requires.sound.1, c.requires.within)

pub returns-clause-named : goal.returns-clause-named
returns-clause-named c = on_ok_weaker c.put_part.result (λ g. g.named) c.put_part.ensures.put

pub returns-clause-pieces : goal.returns-clause-pieces
returns-clause-pieces c =
    let r = c.args.row.now in
    let n = c.args.number in
    let x = c.at.result.now in
    let count : c.count.result ≡ length (items_of r.values) = omega (arith, c.count.ensures) in
    let z : IsLike (items_of r.seams.all) (length (items_of r.values)) n c.like_number-like.result x = record {
      is = c.at.ensures;
      within = omega (arith, c.like_number-like.ensures.within, count);
      first = λ a m. c.like_number-like.ensures.first a (omega (arith, m, count));
      own = λ f. c.like_number-like.ensures.own (λ a. omega (arith, f a, count));
    } in
    on_ok_weaker c.put_part.result (λ g. element_before_pieces r c.put_part.new.row c.around-seam.result c.args.value c.requires.sound c.requires.value n c.like_number-like.result x g (omega (arith, c.requires.within)) z
    (record { whitespace_is = ap text_bytes c.around-seam.ensures.whitespace ∙ c.in_ok-behind.ensures; name_is = c.around-seam.ensures.name; colons_is = c.around-seam.ensures.colons; trail_is = c.around-seam.ensures.trail })) c.put_part.ensures.put

pub returns-clause-sound : goal.returns-clause-sound
returns-clause-sound c =
    let r = c.args.row.now in
    let n = c.args.number in
    let x = c.at.result.now in
    let count : c.count.result ≡ length (items_of r.values) = omega (arith, c.count.ensures) in
    let z : IsLike (items_of r.seams.all) (length (items_of r.values)) n c.like_number-like.result x = record {
      is = c.at.ensures;
      within = omega (arith, c.like_number-like.ensures.within, count);
      first = λ a m. c.like_number-like.ensures.first a (omega (arith, m, count));
      own = λ f. c.like_number-like.ensures.own (λ a. omega (arith, f a, count));
    } in
    on_ok_weaker c.put_part.result (λ g. element_before_sound r c.put_part.new.row c.around-seam.result c.args.value c.requires.sound c.requires.value n c.like_number-like.result x g (omega (arith, c.requires.within)) z
    (record { whitespace_is = ap text_bytes c.around-seam.ensures.whitespace ∙ c.in_ok-behind.ensures; name_is = c.around-seam.ensures.name; colons_is = c.around-seam.ensures.colons; trail_is = c.around-seam.ensures.trail }) c.requires.array) c.put_part.ensures.put

pub returns-in_err-behind-clause-opened : goal.returns-in_err-behind-clause-opened
returns-in_err-behind-clause-opened c = on_err c.from_residual.result (opened_itself (row_held c.args.row.now))
