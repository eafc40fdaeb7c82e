use Rattle.std.proofs.Common.{ap, ◌∙◌, arith}
use Rattle.std.proofs.lemmas.Simd.{get_or-chunk}
use Rattle.json_lexemes.specs.Grammar.{is_stop}
use Rattle.json_lexemes.proofs.stops.near_stop.Goals as goal

pub seen_stop-requires-clause-stops : goal.seen_stop-requires-clause-stops
seen_stop-requires-clause-stops c = λ _. (omega arith, λ i h. c.stop_bits-bits.ensures i h ∙ ap is_stop (get_or-chunk c.args.from 64 c.args.text.now i 0 h))

pub returns-clause-stops : goal.returns-clause-stops
returns-clause-stops c = λ _. (omega arith, λ i h. c.stop_bits-bits.ensures i h ∙ ap is_stop (get_or-chunk c.args.from 64 c.args.text.now i 0 h))
