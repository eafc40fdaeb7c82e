use Rattle.std.proofs.Common.{◌≡◌, length, arith, refl}
use Rattle.long_vec.specs.Items.{items_of}
use Rattle.json_pieces.specs.Nodes.{row_pieces, text_bytes, tree_text, view}
use Rattle.json_pieces.proofs.Lists.{pieces_are}
use Rattle.json_pieces.proofs.Rows.PutsIn.{element_before, element_last, no_element_index, no_element_past}
use Rattle.json_pieces.specs.Held.{row_held}
use Rattle.json_pieces.proofs.Opened.{opened_itself}
use Rattle.json_pieces.proofs.row.put_element.Goals as goal

pub returns-in_default-clause-put : goal.returns-in_default-clause-put
returns-in_default-clause-put c =
    let r = c.args.row.now in
    let count : c.count-count.result ≡ length (row_pieces r) = omega (arith, c.count-count.ensures, pieces_are (items_of r.seams.all) (items_of r.values) c.requires.sound.1) in
    no_element_index r.named r.length (text_bytes r.hollow) (row_pieces r) c.args.name.now (tree_text (view c.args.value)) c.requires.array c.requires.sound.0 (omega (arith, count)) c.in_default.ensures.no_index

pub returns-in_default-for_len_incl-clause-put : goal.returns-in_default-for_len_incl-clause-put
returns-in_default-for_len_incl-clause-put c =
    let r = c.args.row.now in
    let count : c.count-count.result ≡ length (row_pieces r) = omega (arith, c.count-count.ensures, pieces_are (items_of r.seams.all) (items_of r.values) c.requires.sound.1) in
    no_element_past r.named r.length (text_bytes r.hollow) (row_pieces r) c.args.name.now (tree_text (view c.args.value)) c.in-Ok.index c.count-count.result c.requires.array c.requires.sound.0 count c.in-Ok.ensures.index c.in_default-for_len_incl.ensures.outside

pub returns-then-number-count-clause-put : goal.returns-then-number-count-clause-put
returns-then-number-count-clause-put c =
    let r = c.args.row.now in
    let count : c.count-count.result ≡ length (row_pieces r) = omega (arith, c.count-count.ensures, pieces_are (items_of r.seams.all) (items_of r.values) c.requires.sound.1) in
    let s = c.element_before.new.row in
    let g = c.in_ok-element_before.ensures in
    element_before r.named s.named r.length (text_bytes r.hollow) (text_bytes s.hollow) (row_pieces r) (row_pieces s) c.args.name.now (tree_text (view c.args.value)) (tree_text (view c.args.value)) c.in-Ok.index c.count-count.result c.in-Ok-for_len_incl.number
    c.requires.array g.named c.requires.sound.0 refl g.pieces count c.in-Ok.ensures.index c.in-Ok-for_len_incl.ensures.place c.if-number-count.true

pub returns-then-count-eq0-clause-put : goal.returns-then-count-eq0-clause-put
returns-then-count-eq0-clause-put c =
    let r = c.args.row.now in
    let count : c.count-count.result ≡ length (row_pieces r) = omega (arith, c.count-count.ensures, pieces_are (items_of r.seams.all) (items_of r.values) c.requires.sound.1) in
    let s = c.first_element.new.row in
    let g = c.in_ok-first_element.ensures in
    element_last r.named s.named r.length (text_bytes r.hollow) (text_bytes s.hollow) (row_pieces r) (row_pieces s) c.args.name.now (tree_text (view c.args.value)) (tree_text (view c.args.value)) c.in-Ok.index c.count-count.result c.in-Ok-for_len_incl.number
    c.requires.array g.named c.requires.sound.0 refl g.pieces count c.in-Ok.ensures.index c.in-Ok-for_len_incl.ensures.place c.in-Ok-for_len_incl.ensures.within c.if-number-count.false

pub returns-clause-put : goal.returns-clause-put
returns-clause-put c =
    let r = c.args.row.now in
    let count : c.count-count.result ≡ length (row_pieces r) = omega (arith, c.count-count.ensures, pieces_are (items_of r.seams.all) (items_of r.values) c.requires.sound.1) in
    let s = c.next_element.new.row in
    let g = c.in_ok-next_element.ensures in
    element_last r.named s.named r.length (text_bytes r.hollow) (text_bytes s.hollow) (row_pieces r) (row_pieces s) c.args.name.now (tree_text (view c.args.value)) (tree_text (view c.args.value)) c.in-Ok.index c.count-count.result c.in-Ok-for_len_incl.number
    c.requires.array g.named c.requires.sound.0 refl g.pieces count c.in-Ok.ensures.index c.in-Ok-for_len_incl.ensures.place c.in-Ok-for_len_incl.ensures.within c.if-number-count.false

pub returns-in_default-clause-back : goal.returns-in_default-clause-back
returns-in_default-clause-back c = opened_itself (row_held c.args.row.now)

pub returns-in_default-for_len_incl-clause-back : goal.returns-in_default-for_len_incl-clause-back
returns-in_default-for_len_incl-clause-back c = opened_itself (row_held c.args.row.now)
