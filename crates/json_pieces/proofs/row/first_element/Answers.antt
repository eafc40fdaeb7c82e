use Rattle.std.proofs.Common.{ap}
use Rattle.std.proofs.lemmas.Result.{on_ok_weaker}
use Rattle.json_pieces.specs.Nodes.{text_bytes}
use Rattle.json_pieces.proofs.Rows.Parted.{first_element_pieces, first_element_sound}
use Rattle.json_pieces.proofs.row.first_element.Goals as goal

pub returns-clause-named : goal.returns-clause-named
returns-clause-named c = on_ok_weaker c.put_part.result (λ g. g.named) c.put_part.ensures.put

pub returns-clause-pieces : goal.returns-clause-pieces
returns-clause-pieces c =
    on_ok_weaker c.put_part.result (λ g. first_element_pieces c.args.row.now c.put_part.new.row c.around-seam.result c.args.value c.requires.sound c.requires.value g c.requires.empty
    (record { whitespace_is = ap text_bytes c.around-seam.ensures.whitespace; name_is = c.around-seam.ensures.name; colons_is = c.around-seam.ensures.colons; trail_is = c.around-seam.ensures.trail })) c.put_part.ensures.put

pub returns-clause-sound : goal.returns-clause-sound
returns-clause-sound c =
    on_ok_weaker c.put_part.result (λ g. first_element_sound c.args.row.now c.put_part.new.row c.around-seam.result c.args.value c.requires.sound c.requires.value g c.requires.empty c.requires.array
    (record { whitespace_is = ap text_bytes c.around-seam.ensures.whitespace; name_is = c.around-seam.ensures.name; colons_is = c.around-seam.ensures.colons; trail_is = c.around-seam.ensures.trail })) c.put_part.ensures.put
