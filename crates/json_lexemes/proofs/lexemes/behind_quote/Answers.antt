use Rattle.json_lexemes.proofs.Strings.{quote_begins}
use Rattle.json_lexemes.proofs.lexemes.behind_quote.Goals as goal

pub returns-then-text-from-eq34-clause-opens : goal.returns-then-text-from-eq34-clause-opens
returns-then-text-from-eq34-clause-opens c = quote_begins c.args.text.now c.args.from c.if-from-text.true c.if-text-from-eq34.true

pub returns-then-text-i-eq34-clause-opens : goal.returns-then-text-i-eq34-clause-opens
returns-then-text-i-eq34-clause-opens c = λ e. quote_begins c.args.text.now c.spaces_end-i.result c.if-i-text.true c.if-text-i-eq34.true (c.spaces_end-i.ensures.end e)
