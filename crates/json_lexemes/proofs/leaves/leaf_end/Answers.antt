use Rattle.std.proofs.Common.{sym, ◌∙◌, arith}
use Rattle.json_lexemes.proofs.Ended.{here, string_closed, string_ended}
use Rattle.json_lexemes.proofs.leaves.leaf_end.Goals as goal

pub returns-then-c-eq34-clause-spells : goal.returns-then-c-eq34-clause-spells
returns-then-c-eq34-clause-spells c =
    let h = here c.args.text.now c.args.from 34 (omega arith) (sym c.requires.byte ∙ c.if-c-eq34.true) in
    string_closed c.args.text.now c.args.from c.closed_string.result h.0 h.1 c.closed_string.ensures.left c.closed_string.ensures.content

pub returns-then-c-eq34-clause-end : goal.returns-then-c-eq34-clause-end
returns-then-c-eq34-clause-end c =
    let h = here c.args.text.now c.args.from 34 (omega arith) (sym c.requires.byte ∙ c.if-c-eq34.true) in
    string_ended c.args.text.now c.args.from c.closed_string.result h.0 h.1 c.closed_string.ensures.closes
