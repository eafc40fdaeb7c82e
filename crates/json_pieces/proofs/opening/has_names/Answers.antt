use Rattle.std.proofs.Common.{true, false}
use Rattle.json_pieces.proofs.Openings.{as_array, as_object, row_text_of}
use Rattle.json_pieces.proofs.opening.has_names.Goals as goal

pub returns-in-Object : goal.returns-in-Object
returns-in-Object c =
    let (j, h) = c.requires in
    row_text_of c.args.text.now true j h (as_object j c.of.result (c.of.ensures j h.0) c.in-Object.is)

pub returns-in-Array : goal.returns-in-Array
returns-in-Array c =
    let (j, h) = c.requires in
    row_text_of c.args.text.now false j h (as_array j c.of.result (c.of.ensures j h.0) c.in-Array.is)
