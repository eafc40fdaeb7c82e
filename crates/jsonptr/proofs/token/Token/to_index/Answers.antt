use Rattle.jsonptr.proofs.Indexes.{token_ok, token_err, token_parse}
use Rattle.jsonptr.proofs.token.Token.to_index.Goals as goal

pub returns-clause-index : goal.returns-clause-index
returns-clause-index c = token_ok _ _ _ c.encoded.ensures c.parse.ensures.index

pub returns-clause-no_index : goal.returns-clause-no_index
returns-clause-no_index c = token_err _ _ _ c.encoded.ensures c.parse.ensures.no_index

pub returns-clause-as_parse : goal.returns-clause-as_parse
returns-clause-as_parse c = token_parse _ _ _ c.encoded.ensures c.parse.ensures.index c.parse.ensures.fault
