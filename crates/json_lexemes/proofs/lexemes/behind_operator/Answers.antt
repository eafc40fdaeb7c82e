use Rattle.std.proofs.Common.{sym, ap, ◌∙◌}
use Rattle.json.specs.Word.{is_operator}
use Rattle.json_lexemes.proofs.Steps.{operator_left, operator_end}
use Rattle.json_lexemes.proofs.lexemes.behind_operator.Goals as goal

pub returns-then-text-from-clause-left : goal.returns-then-text-from-clause-left
returns-then-text-from-clause-left c = operator_left c.args.text.now c.args.from c.args.c c.if-from-text.true c.if-text-from.true c.requires.operator

pub returns-then-text-from-clause-begins : goal.returns-then-text-from-clause-begins
returns-then-text-from-clause-begins c = operator_end c.args.text.now c.args.from c.if-from-text.true (ap is_operator c.if-text-from.true ∙ c.requires.operator)

pub returns-then-text-at-clause-left : goal.returns-then-text-at-clause-left
returns-then-text-at-clause-left c = sym c.spaces_end-at.ensures.left ∙ operator_left c.args.text.now c.spaces_end-at.result c.args.c c.if-at-text.true c.if-text-at.true c.requires.operator

pub returns-then-text-at-clause-begins : goal.returns-then-text-at-clause-begins
returns-then-text-at-clause-begins c = λ e. operator_end c.args.text.now c.spaces_end-at.result c.if-at-text.true (ap is_operator c.if-text-at.true ∙ c.requires.operator) (c.spaces_end-at.ensures.end e)
