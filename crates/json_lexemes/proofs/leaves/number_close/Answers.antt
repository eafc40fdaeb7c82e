use Rattle.std.proofs.Common.{◌<◌, ◌≤◌, length}
use Rattle.json_lexemes.specs.Grammar.{Spells}
use Rattle.json_lexemes.specs.Places.{IsEnd}
use Rattle.json_lexemes.proofs.Ended.{if_ended, number_ends, number_spells, number_moves}
use Rattle.json_lexemes.proofs.leaves.number_close.Goals as goal

pub returns-clause-bounds : goal.returns-clause-bounds
returns-clause-bounds c =
    let t = c.args.text.now in
    if_ended (λ i. (c.args.from < i) × (i ≤ length t)) t _ c.in_ok-end.end c.if_ended.ensures (λ e. (number_moves t c.args.from c.in_ok-end.end c.in_ok-end.ensures e, c.in_ok-end.ensures.1.1))

pub returns-clause-spells : goal.returns-clause-spells
returns-clause-spells c =
    let t = c.args.text.now in
    if_ended (Spells t 0 c.args.from) t _ c.in_ok-end.end c.if_ended.ensures (number_spells t c.args.from c.in_ok-end.end c.in_ok-end.ensures)

pub returns-clause-end : goal.returns-clause-end
returns-clause-end c =
    let t = c.args.text.now in
    if_ended (λ i. IsEnd t c.args.from → IsEnd t i) t _ c.in_ok-end.end c.if_ended.ensures (number_ends t c.args.from c.in_ok-end.end c.in_ok-end.ensures)
