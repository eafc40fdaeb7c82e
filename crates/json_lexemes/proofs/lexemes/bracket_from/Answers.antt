use Rattle.std.proofs.Common.{length, get_or, arith}
use Rattle.json_lexemes.proofs.Steps.{ends_by_end, ends_by_operator}
use Rattle.json_lexemes.proofs.Runs.{passes_on, run_left, run_end, run_here, stops_at_bracket, bracket_operator}
use Rattle.json_lexemes.proofs.lexemes.bracket_from.Goals as goal

pub returns-then-text-at-ne34-clause-passes : goal.returns-then-text-at-ne34-clause-passes
returns-then-text-at-ne34-clause-passes c =
    let t = c.args.text.now in
    let k = c.in-Some.at in
    let found = c.in-Some.ensures in
    let b = stops_at_bracket (get_or t k 0) found.stops c.if-text-at-ne34.true in
    passes_on _ _ _ c.loop-at.invariant.passes (run_left t c.loop-at.i k found.run (ends_by_operator t k found.bounds.1 (bracket_operator (get_or t k 0) b)))

pub returns-then-text-at-ne34-clause-stops : goal.returns-then-text-at-ne34-clause-stops
returns-then-text-at-ne34-clause-stops c = λ h. stops_at_bracket _ c.in-Some.ensures.stops c.if-text-at-ne34.true

pub returns-then-text-at-ne34-clause-end : goal.returns-then-text-at-ne34-clause-end
returns-then-text-at-ne34-clause-end c = λ e.
    let t = c.args.text.now in
    let k = c.in-Some.at in
    let found = c.in-Some.ensures in
    let b = stops_at_bracket (get_or t k 0) found.stops c.if-text-at-ne34.true in
    run_end t c.loop-at.i k found.run (ends_by_operator t k found.bounds.1 (bracket_operator (get_or t k 0) b)) (c.loop-at.invariant.end e)

pub loop-at-preserved : goal.loop-at-preserved
loop-at-preserved c =
    let t = c.args.text.now in
    let k = c.in-Some.at in
    let found = c.in-Some.ensures in
    record {
      low = omega (arith, c.past_quote-i.ensures.bounds, found.bounds);
      high = c.past_quote-i.ensures.bounds.1;
      passes = passes_on _ _ _ c.loop-at.invariant.passes (passes_on _ _ _ found.run.passes c.past_quote-i.ensures.passes);
      end = λ e. c.past_quote-i.ensures.end (run_here t c.loop-at.i k found.bounds.1 c.if-text-at-ne34.false found.run (c.loop-at.invariant.end e));
    }

pub returns-in_default-clause-passes : goal.returns-in_default-clause-passes
returns-in_default-clause-passes c =
    let t = c.args.text.now in
    passes_on _ _ _ c.loop-at.invariant.passes (run_left t c.loop-at.i (length t) c.in_default.ensures.none (ends_by_end t (length t) (omega arith)))
