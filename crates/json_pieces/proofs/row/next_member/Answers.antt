use Rattle.std.proofs.Common.{◌-◌, ◌<◌, length, ap, ◌∙◌, arith}
use Rattle.std.proofs.lemmas.Result.{on_ok_weaker}
use Rattle.json.specs.Print.{quoted}
use Rattle.json_text.specs.Styled.{colons_like}
use Rattle.long_vec.specs.Items.{items_of}
use Rattle.json_pieces.specs.Nodes.{text_bytes}
use Rattle.json_pieces.proofs.Lists.{seams_are}
use Rattle.json_pieces.proofs.Rows.Parted.{next_member_pieces, next_member_sound}
use Rattle.json_pieces.proofs.Rows.Puts.{same_seam}
use Rattle.json_pieces.specs.Held.{row_held}
use Rattle.json_pieces.proofs.Opened.{opened_itself}
use Rattle.json_pieces.proofs.Stepped.{on_err}
use Rattle.json_pieces.proofs.row.next_member.Goals as goal

pub at-requires : goal.at-requires
at-requires c =
    let r = c.args.row.now in
    omega (arith, seams_are (items_of r.seams.all) (items_of r.values) c.requires.sound.1, c.requires.some, c.count-count.ensures)

pub at-requires-2 : goal.at-requires-2
at-requires-2 c =
    let r = c.args.row.now in
    omega (arith, seams_are (items_of r.seams.all) (items_of r.values) c.requires.sound.1, c.requires.some, c.count-count.ensures)

pub put_part-requires-clause-seams : goal.put_part-requires-clause-seams
put_part-requires-clause-seams c =
    let r = c.args.row.now in
    omega (arith, seams_are (items_of r.seams.all) (items_of r.values) c.requires.sound.1, c.requires.some, c.count-count.ensures)

pub put_part-requires-clause-slot : goal.put_part-requires-clause-slot
put_part-requires-clause-slot c =
    let r = c.args.row.now in
    omega (arith, seams_are (items_of r.seams.all) (items_of r.values) c.requires.sound.1, c.requires.some, c.count-count.ensures)

pub returns-clause-named : goal.returns-clause-named
returns-clause-named c = on_ok_weaker c.put_part.result (λ g. g.named) c.put_part.ensures.put

pub returns-clause-pieces : goal.returns-clause-pieces
returns-clause-pieces c =
    let r = c.args.row.now in
    let n = c.count-count.result - 1 in
    let there : n < length (items_of r.seams.all) = omega (arith, seams_are (items_of r.seams.all) (items_of r.values) c.requires.sound.1, c.requires.some, c.count-count.ensures) in
    let same = same_seam (items_of r.seams.all) n c.at.result.now c.at-2.result.now there c.at.ensures c.at-2.ensures in
    on_ok_weaker c.put_part.result (λ g. next_member_pieces r c.put_part.new.row c.labelled-seam.result c.args.value c.requires.sound c.requires.value n c.count-count.result g (omega (arith, c.requires.some, c.count-count.ensures)) (omega (arith, c.count-count.ensures)) c.at.result.now c.at.ensures there c.labelled-seam.ensures.trail (quoted c.args.name.now)
    (record { whitespace_is = ap text_bytes c.labelled-seam.ensures.whitespace ∙ c.in_ok-whitespace.ensures; name_is = ap text_bytes c.labelled-seam.ensures.name ∙ c.in_ok-quoted.ensures; colons_is = ap text_bytes c.labelled-seam.ensures.colons ∙ c.in_ok-colons.ensures ∙ ap (λ s. colons_like (text_bytes s.colons)) same; trail_is = c.labelled-seam.ensures.trail })) c.put_part.ensures.put

pub returns-clause-sound : goal.returns-clause-sound
returns-clause-sound c =
    let r = c.args.row.now in
    let n = c.count-count.result - 1 in
    let there : n < length (items_of r.seams.all) = omega (arith, seams_are (items_of r.seams.all) (items_of r.values) c.requires.sound.1, c.requires.some, c.count-count.ensures) in
    let same = same_seam (items_of r.seams.all) n c.at.result.now c.at-2.result.now there c.at.ensures c.at-2.ensures in
    on_ok_weaker c.put_part.result (λ g. next_member_sound r c.put_part.new.row c.labelled-seam.result c.args.value c.requires.sound c.requires.value n c.count-count.result g (omega (arith, c.requires.some, c.count-count.ensures)) (omega (arith, c.count-count.ensures)) c.at.result.now c.at.ensures there c.labelled-seam.ensures.trail c.args.name.now c.requires.object
    (record { whitespace_is = ap text_bytes c.labelled-seam.ensures.whitespace ∙ c.in_ok-whitespace.ensures; name_is = ap text_bytes c.labelled-seam.ensures.name ∙ c.in_ok-quoted.ensures; colons_is = ap text_bytes c.labelled-seam.ensures.colons ∙ c.in_ok-colons.ensures ∙ ap (λ s. colons_like (text_bytes s.colons)) same; trail_is = c.labelled-seam.ensures.trail })) c.put_part.ensures.put

pub returns-in_err-quoted-clause-opened : goal.returns-in_err-quoted-clause-opened
returns-in_err-quoted-clause-opened c = on_err c.from_residual.result (opened_itself (row_held c.args.row.now))

pub returns-in_err-whitespace-clause-opened : goal.returns-in_err-whitespace-clause-opened
returns-in_err-whitespace-clause-opened c = on_err c.from_residual-in_err-whitespace.result (opened_itself (row_held c.args.row.now))

pub returns-in_err-colons-clause-opened : goal.returns-in_err-colons-clause-opened
returns-in_err-colons-clause-opened c = on_err c.from_residual-in_err-colons.result (opened_itself (row_held c.args.row.now))
