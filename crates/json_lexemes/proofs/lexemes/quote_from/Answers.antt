use Rattle.json_lexemes.proofs.Runs.{string_run}
use Rattle.json_lexemes.proofs.lexemes.quote_from.Goals as goal

pub returns-then-i-text-clause-inside : goal.returns-then-i-text-clause-inside
returns-then-i-text-clause-inside c =
    let e = c.first_of-i.ensures in
    string_run c.args.text.now c.args.from c.first_of-i.result e.bounds.0 e.bounds.1 e.free
