use Rattle.json_pieces.proofs.Calls.{replaced_at}
use Rattle.json_pieces.proofs.pieces.Pieces.exchange.Goals as goal

pub returns-clause-replaced : goal.returns-clause-replaced
returns-clause-replaced c = replaced_at _ _ c.args.value _ _ c.in_ok-found.found c.is_some.result c.requires.shallow c.tokens.ensures.value c.is_some.ensures c.in_ok-found.ensures.makes
