use Rattle.std.proofs.Common.{◌<◌, length, ap, arith, refl}
use Rattle.long_vec.specs.Items.{items_of}
use Rattle.json_pieces.specs.Nodes.{row_pieces, text_bytes, tree_text, view}
use Rattle.json_pieces.proofs.Lists.{pieces_are}
use Rattle.json_pieces.proofs.Rows.PutsIn.{member_exchanged, member_new}
use Rattle.json_pieces.proofs.Rows.Takes.{none_named, some_named}
use Rattle.json_pieces.proofs.row.put_member.Goals as goal

pub returns-in-Some-clause-put : goal.returns-in-Some-clause-put
returns-in-Some-clause-put c =
    let r = c.args.row.now in
    let s = c.put_value.new.row in
    let g = c.in_ok-put_value.ensures in
    let n = c.in-Some.number in
    let within : n < length (row_pieces r) = omega (arith, c.in-Some.ensures.within, pieces_are (items_of r.seams.all) (items_of r.values) c.requires.sound.1) in
    member_exchanged r.named s.named r.length (text_bytes r.hollow) (text_bytes s.hollow) (row_pieces r) (row_pieces s) n c.args.name.now (tree_text (view c.args.value)) c.requires.object g.named (ap text_bytes g.hollow) c.requires.sound.0 g.pieces
    (some_named r.named (row_pieces r) c.args.name.now c.number_of.result n c.in-Some.is c.number_of.ensures.number) within

pub returns-then-count-eq0-clause-put : goal.returns-then-count-eq0-clause-put
returns-then-count-eq0-clause-put c =
    let r = c.args.row.now in
    let s = c.first_member.new.row in
    let g = c.in_ok-first_member.ensures in
    member_new r.named s.named r.length (text_bytes r.hollow) (text_bytes s.hollow) (row_pieces r) (row_pieces s) c.args.name.now (tree_text (view c.args.value)) (tree_text (view c.args.value)) c.requires.object g.named c.requires.sound.0 refl g.pieces
    (none_named r.named (row_pieces r) c.args.name.now c.number_of.result c.in_default.is c.number_of.ensures.number)

pub returns-clause-put : goal.returns-clause-put
returns-clause-put c =
    let r = c.args.row.now in
    let s = c.next_member.new.row in
    let g = c.in_ok-next_member.ensures in
    member_new r.named s.named r.length (text_bytes r.hollow) (text_bytes s.hollow) (row_pieces r) (row_pieces s) c.args.name.now (tree_text (view c.args.value)) (tree_text (view c.args.value)) c.requires.object g.named c.requires.sound.0 refl g.pieces
    (none_named r.named (row_pieces r) c.args.name.now c.number_of.result c.in_default.is c.number_of.ensures.number)
