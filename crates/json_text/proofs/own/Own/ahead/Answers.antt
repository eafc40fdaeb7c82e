use Rattle.std.proofs.Common.{subst}
use Rattle.json_text.specs.Rows.{IsAhead}
use Rattle.json_text.proofs.own.Own.ahead.Goals as goal

pub returns-clause-ahead : goal.returns-clause-ahead
returns-clause-ahead c = subst (λ t. IsAhead t c.args.named c.args.from c.first.result) c.as_bytes.ensures.value (c.first.ensures.ahead c.args.named)
