use Rattle.std.proofs.Common.{◌∙◌}
use Rattle.json_pieces.specs.Held.{row_held}
use Rattle.json_pieces.proofs.Stepped.{stepped_none}
use Rattle.json_pieces.proofs.edit.insert.Goals as goal

pub returns-in_err-ready-clause-led : goal.returns-in_err-ready-clause-led
returns-in_err-ready-clause-led c = λ on. stepped_none c.ready.new.self.steps.items (row_held c.args.row.now) (c.ready.ensures.steps ∙ c.requires.steps)
