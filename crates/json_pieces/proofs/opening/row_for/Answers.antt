use Rattle.json_pieces.specs.Nodes.{text_bytes}
use Rattle.json_pieces.proofs.opening.row_for.Goals as goal

pub row_along-requires-clause-places : goal.row_along-requires-clause-places
row_along-requires-clause-places c = c.none-places.ensures (text_bytes c.in-Closed.text)
