use Rattle.std.proofs.Common.{subst}
use Rattle.json_pieces.specs.Names.{Agrees}
use Rattle.json_pieces.proofs.Places.{taken}
use Rattle.json_pieces.proofs.seams.index_without.Goals as goal

pub returns-then-forget : goal.returns-then-forget
returns-then-forget c = λ ss h. taken ss c.args.number c.in_ok-index.index c.forget.new.self (c.forget.ensures c.if-forget.true) (subst (Agrees ss) c.in_ok-index.was h)
