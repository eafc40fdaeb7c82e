use Rattle.json_lexemes.proofs.Wide.{digits_run}
use Rattle.json_lexemes.proofs.leaves.digits_end.Goals as goal

pub returns-clause-value : goal.returns-clause-value
returns-clause-value c =
    let e = c.first_of.ensures in
    digits_run c.args.text.now c.args.from c.first_of.result e.bounds.0 e.bounds.1 e.free e.stops
