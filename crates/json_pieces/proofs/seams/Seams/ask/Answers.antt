use Rattle.std.proofs.Common.{subst}
use Rattle.json_pieces.specs.Names.{IsIndexOf}
use Rattle.json_pieces.proofs.seams.Seams.ask.Goals as goal

pub invariant_of-self-2 : goal.invariant_of-self-2
invariant_of-self-2 c = record { counted = c.args.self.now.counted; agrees = subst (λ l. IsIndexOf l c.in_ok-indexed.field-0) c.items.ensures c.in_ok-indexed.ensures }
