use Rattle.json_lexemes.proofs.tests.values.Goals as goal

pub value_from-requires-clause-places : goal.value_from-requires-clause-places
value_from-requires-clause-places g c = c.none-none.ensures c.as_bytes-text.result.now

pub first_named-requires-clause-places : goal.first_named-requires-clause-places
first_named-requires-clause-places g c = c.none-none.ensures c.as_bytes-text.result.now

pub first_named-requires-2-clause-places : goal.first_named-requires-2-clause-places
first_named-requires-2-clause-places g c = c.none-none.ensures c.as_bytes-text.result.now

pub next_named-requires-clause-places : goal.next_named-requires-clause-places
next_named-requires-clause-places g c = c.none-none.ensures c.as_bytes-text.result.now

pub numbered-requires-clause-places : goal.numbered-requires-clause-places
numbered-requires-clause-places g c = c.none-none.ensures c.as_bytes-text.result.now

pub numbered-requires-2-clause-places : goal.numbered-requires-2-clause-places
numbered-requires-2-clause-places g c = c.none-none.ensures c.as_bytes-text.result.now
