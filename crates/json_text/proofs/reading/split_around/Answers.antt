use Rattle.json_text.proofs.Rows.Pieces.{in_three}
use Rattle.json_text.proofs.reading.split_around.Goals as goal

pub find-requires : goal.find-requires
find-requires c = c.none.ensures c.args.text.now

pub returns-clause-whole : goal.returns-clause-whole
returns-clause-whole c =
    let within = rw c.in-Some.is at c.in_ok-place.ensures.within in
    in_three c.args.text.now _ _ _ c.in-Some.place.start c.in-Some.place.end within.order c.range.ensures.value c.range-value.ensures.value c.range_from.ensures.value
