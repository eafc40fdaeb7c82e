use Rattle.std.proofs.Common.{◌∙◌, subst}
use Rattle.json_lexemes.specs.Signposts.{ArePlaces}
use Rattle.json_pieces.specs.Nodes.{text_bytes}
use Rattle.json_pieces.proofs.opening.deep_row.Goals as goal

pub row_along-requires-clause-places : goal.row_along-requires-clause-places
row_along-requires-clause-places c = subst (λ u. ArePlaces u c.places-places.result) (c.as_bytes-bytes.ensures.value ∙ c.as_str.ensures) (c.places-places.ensures c.as_bytes-bytes.result.now (c.leaves_signposts.ensures.signposts c.if-leaves_signposts.true))

pub row_along-requires-2-clause-places : goal.row_along-requires-2-clause-places
row_along-requires-2-clause-places c = c.none-places.ensures (text_bytes c.args.text.now)
