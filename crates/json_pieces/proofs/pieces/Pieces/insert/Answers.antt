use Rattle.std.proofs.Common.{◌∙◌}
use Rattle.std.proofs.lemmas.Result.{IfOk-weaker}
use Rattle.json_pieces.proofs.Calls.{added_at, root_added}
use Rattle.json_pieces.proofs.pieces.Pieces.insert.Goals as goal

pub returns-in_default-clause-added : goal.returns-in_default-clause-added
returns-in_default-clause-added c = IfOk-weaker c.exchange.result _ _ (λ done made text put. root_added _ _ _ text done c.in_default.ensures.root (made text put)) c.exchange.ensures.replaced

pub returns-clause-added : goal.returns-clause-added
returns-clause-added c =
    added_at _ _ c.as_str.result c.args.value _ _ _ _ c.in_ok-found.found c.is_some.result c.requires.shallow c.in-Some.ensures.last (c.as_str.ensures.value ∙ c.in_ok-name.ensures) c.tokens.ensures.value c.is_some.ensures c.in_ok-found.ensures.makes
