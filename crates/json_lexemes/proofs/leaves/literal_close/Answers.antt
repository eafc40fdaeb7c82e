use Rattle.std.proofs.Common.{◌+◌, sym, ◌∙◌, arith}
use Rattle.json_lexemes.specs.Grammar.{Spells}
use Rattle.json_lexemes.specs.Places.{IsEnd}
use Rattle.json_lexemes.proofs.Ended.{here, if_ended, true_ends, true_spells, false_ends, false_spells, null_ends, null_spells}
use Rattle.json_lexemes.proofs.leaves.literal_close.Goals as goal

pub returns-then-stand-clause-spells : goal.returns-then-stand-clause-spells
returns-then-stand-clause-spells c =
    let t = c.args.text.now in
    let i = c.args.from in
    if_ended (Spells t 0 i) t _ (i + 4) c.if_ended.ensures (true_spells t i c.requires c.if-c-eq116.true (c.stand.ensures.bytes c.if-stand.true))

pub returns-then-stand-2-clause-spells : goal.returns-then-stand-2-clause-spells
returns-then-stand-2-clause-spells c =
    let t = c.args.text.now in
    let i = c.args.from in
    if_ended (Spells t 0 i) t _ (i + 4) c.if_ended-then-stand-2.ensures (null_spells t i c.requires c.if-c-eq110.true (c.stand-then-c-eq110.ensures.bytes c.if-stand-2.true))

pub returns-then-stand-3-clause-spells : goal.returns-then-stand-3-clause-spells
returns-then-stand-3-clause-spells c =
    let t = c.args.text.now in
    let i = c.args.from in
    let h = here t (i + 1) 97 (omega arith) (sym c.byte_at-second.ensures.value ∙ c.if-second-eq97.true) in
    if_ended (Spells t 0 i) t _ (i + 5) c.if_ended-then-stand-3.ensures (false_spells t i h.0 c.if-c-eq102.true h.1 (c.stand-then-second-eq97.ensures.bytes c.if-stand-3.true))

pub returns-then-stand-clause-end : goal.returns-then-stand-clause-end
returns-then-stand-clause-end c =
    let t = c.args.text.now in
    let i = c.args.from in
    if_ended (λ k. IsEnd t i → IsEnd t k) t _ (i + 4) c.if_ended.ensures (true_ends t i c.requires c.if-c-eq116.true (c.stand.ensures.bytes c.if-stand.true))

pub returns-then-stand-2-clause-end : goal.returns-then-stand-2-clause-end
returns-then-stand-2-clause-end c =
    let t = c.args.text.now in
    let i = c.args.from in
    if_ended (λ k. IsEnd t i → IsEnd t k) t _ (i + 4) c.if_ended-then-stand-2.ensures (null_ends t i c.requires c.if-c-eq110.true (c.stand-then-c-eq110.ensures.bytes c.if-stand-2.true))

pub returns-then-stand-3-clause-end : goal.returns-then-stand-3-clause-end
returns-then-stand-3-clause-end c =
    let t = c.args.text.now in
    let i = c.args.from in
    let h = here t (i + 1) 97 (omega arith) (sym c.byte_at-second.ensures.value ∙ c.if-second-eq97.true) in
    if_ended (λ k. IsEnd t i → IsEnd t k) t _ (i + 5) c.if_ended-then-stand-3.ensures (false_ends t i h.0 c.if-c-eq102.true h.1 (c.stand-then-second-eq97.ensures.bytes c.if-stand-3.true))
