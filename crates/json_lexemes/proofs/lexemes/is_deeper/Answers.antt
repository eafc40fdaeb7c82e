use Rattle.std.proofs.Common.{◌≡◌, ◌+◌, true, get_or, ap, ◌∙◌, sym, arith}
use Rattle.json_lexemes.specs.Blocks.{is_opening}
use Rattle.json_lexemes.specs.Places.{left_at}
use Rattle.json_lexemes.specs.Skipped.{most_open}
use Rattle.json_lexemes.proofs.Blocks.{nests_least}
use Rattle.json_lexemes.proofs.Passed.{opening_depth, opening_operator}
use Rattle.json_lexemes.proofs.Steps.{most_step, operator_first}
use Rattle.json_lexemes.proofs.lexemes.is_deeper.Goals as goal

pub returns : goal.returns
returns c =
    let t = c.args.text.now in
    let i = c.bracket_from-first.result in
    let x = get_or t i 0 in
    let o : is_opening x ≡ true = sym c.is_opening.ensures ∙ c.if-not-is_opening.false in
    let p = c.bracket_from-first.ensures.passes.most 0 in
    let s = most_step t i (i + 1) 0 (operator_first t i (omega (arith, c.bracket_from-first.ensures.bounds)) (opening_operator x o)) in
    let d = ap (λ k. most_open k (left_at t (i + 1))) (opening_depth x o) in
    let m = c.shallow_end-at.ensures.most in
    let r = c.is_deeper_from-2.ensures in
    (λ e. let f = r.0 e in omega (arith, f, m, d, s, p), λ h. r.1 (omega (arith, h, m, d, s, p)))

pub returns-then-most-text : goal.returns-then-most-text
returns-then-most-text c =
    let l = nests_least c.args.text.now in
    (λ e. cc, λ h. absurd (omega (arith, h, l, c.if-most-text.true)))
