use Rattle.json_lexemes.proofs.Masked.{not_behind_first, not_behind_next}
use Rattle.json_lexemes.proofs.masks.not_behind.Goals as goal

pub returns-clause-first : goal.returns-clause-first
returns-clause-first c = not_behind_first c.args.bits c.args.others c.args.first

pub returns-clause-next : goal.returns-clause-next
returns-clause-next c = not_behind_next c.args.bits c.args.others c.args.first
