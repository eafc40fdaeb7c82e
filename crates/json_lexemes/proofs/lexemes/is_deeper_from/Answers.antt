use Rattle.std.proofs.Common.{◌≡◌, ◌+◌, get_or, ap, ◌∙◌, refl, sym, arith}
use Rattle.std.proofs.lemmas.Bool.{false≢true}
use Rattle.json_lexemes.specs.Skipped.{most_open}
use Rattle.json_lexemes.specs.Places.{left_at, depth_by}
use Rattle.json_lexemes.proofs.Steps.{most_nothing, most_step, most_least, operator_first}
use Rattle.json_lexemes.proofs.Runs.{bracket_operator}
use Rattle.json_lexemes.proofs.lexemes.is_deeper_from.Goals as goal

pub returns-then-open-most : goal.returns-then-open-most
returns-then-open-most c =
    let t = c.args.text.now in
    let i = c.loop-i.i in
    let h = c.loop-i-test.true in
    let s = most_step t i (i + 1) c.loop-i.open (operator_first t i h (bracket_operator (get_or t i 0) (c.loop-i.invariant.stops h))) in
    let d = c.open_after_bracket-open.ensures.value in
    let l = most_least (depth_by c.loop-i.open (get_or t i 0)) (left_at t (i + 1)) in
    (λ e. c.loop-i.invariant.forth (omega (arith, s, d, l)), λ m. refl)

pub loop-i-preserved : goal.loop-i-preserved
loop-i-preserved c =
    let t = c.args.text.now in
    let i = c.loop-i.i in
    let h = c.loop-i-test.true in
    let b = c.bracket_from-i-in-loop-i.ensures.bounds in
    let s = most_step t i (i + 1) c.loop-i.open (operator_first t i h (bracket_operator (get_or t i 0) (c.loop-i.invariant.stops h))) in
    let n : most_open c.open_after_bracket-open.result (left_at t c.bracket_from-i-in-loop-i.result) ≡ most_open (depth_by c.loop-i.open (get_or t i 0)) (left_at t (i + 1)) =
    sym (c.bracket_from-i-in-loop-i.ensures.passes.most c.open_after_bracket-open.result) ∙ ap (λ d. most_open d (left_at t (i + 1))) c.open_after_bracket-open.ensures.value in
    record {
      high = b.1;
      depth = omega (arith, c.open_after_bracket-open.ensures.bound, b);
      under = omega arith;
      stops = c.bracket_from-i-in-loop-i.ensures.stops;
      forth = λ m. c.loop-i.invariant.forth (omega (arith, s, n));
      back = λ m. let f = c.loop-i.invariant.back m in omega (arith, s, n, f);
    }

pub returns : goal.returns
returns c =
    let e = most_nothing c.loop-i.open c.args.text.now c.loop-i.i (omega arith) in
    (λ f. absurd (false≢true f), λ h. let b = c.loop-i.invariant.back h in absurd (omega (arith, e, b)))
