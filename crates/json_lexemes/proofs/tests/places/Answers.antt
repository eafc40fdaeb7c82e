use Rattle.json_lexemes.proofs.tests.places.Goals as goal

pub are_found-requires : goal.are_found-requires
are_found-requires g c = let t = c.long_array-text.result in c.places-places.ensures t (c.leaves_signposts-found.ensures.signposts c.if-found.true)

pub are_found-requires-then-are_found : goal.are_found-requires-then-are_found
are_found-requires-then-are_found g c = c.none.ensures c.long_array-text.result
