use Rattle.std.proofs.Common.{sym, ◌∙◌, arith}
use Rattle.json_lexemes.proofs.Trimmed.{end_left}
use Rattle.json_lexemes.proofs.lexemes.last_lexeme_end.Goals as goal

pub returns-clause-left : goal.returns-clause-left
returns-clause-left c = sym c.loop-i.invariant.same ∙ end_left c.args.text.now c.loop-i.i (omega arith)
