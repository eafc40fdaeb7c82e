use Rattle.std.proofs.Common.{ap, ◌∙◌}
use Rattle.std.proofs.lemmas.Result.{on_ok_weaker}
use Rattle.json.specs.Print.{quoted}
use Rattle.json_pieces.specs.Nodes.{text_bytes}
use Rattle.json_pieces.proofs.Rows.Parted.{first_member_pieces, first_member_sound}
use Rattle.json_pieces.proofs.row.first_member.Goals as goal

pub returns-clause-named : goal.returns-clause-named
returns-clause-named c = on_ok_weaker c.put_part.result (λ g. g.named) c.put_part.ensures.put

pub returns-clause-pieces : goal.returns-clause-pieces
returns-clause-pieces c =
    on_ok_weaker c.put_part.result (λ g. first_member_pieces c.args.row.now c.put_part.new.row c.labelled-seam.result c.args.value c.requires.sound c.requires.value g c.requires.empty (quoted c.args.name.now)
    (record { whitespace_is = ap text_bytes c.labelled-seam.ensures.whitespace; name_is = ap text_bytes c.labelled-seam.ensures.name ∙ c.in_ok-quoted.ensures; colons_is = ap text_bytes c.labelled-seam.ensures.colons ∙ c.kept.ensures; trail_is = c.labelled-seam.ensures.trail })) c.put_part.ensures.put

pub returns-clause-sound : goal.returns-clause-sound
returns-clause-sound c =
    on_ok_weaker c.put_part.result (λ g. first_member_sound c.args.row.now c.put_part.new.row c.labelled-seam.result c.args.value c.requires.sound c.requires.value g c.requires.empty c.args.name.now c.requires.object
    (record { whitespace_is = ap text_bytes c.labelled-seam.ensures.whitespace; name_is = ap text_bytes c.labelled-seam.ensures.name ∙ c.in_ok-quoted.ensures; colons_is = ap text_bytes c.labelled-seam.ensures.colons ∙ c.kept.ensures; trail_is = c.labelled-seam.ensures.trail })) c.put_part.ensures.put
