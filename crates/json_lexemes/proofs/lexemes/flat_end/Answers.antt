use Rattle.std.proofs.Common.{◌≡◌, ◌+◌, rules, true, length, get_or, sym, ◌∙◌, subst, arith}
use Rattle.json_lexemes.specs.Runs.{is_flat, InRun}
use Rattle.json_lexemes.proofs.Runs.{run_step, flat_run}
use Rattle.json_lexemes.proofs.lexemes.flat_end.Goals as goal

pub loop-tested-preserved : goal.loop-tested-preserved
loop-tested-preserved c =
    let t = c.args.text.now in
    let from = c.args.from in
    let n = c.loop-tested.tested in
    let f : is_flat (get_or t (from + n) 0) ≡ true = sym c.is_flat.ensures ∙ c.if-not-is_flat.false in
    let next : from + n + 1 ≡ from + (n + 1) = omega arith in
    record { inner = omega arith; run = subst (InRun t from) next (run_step t from (from + n) (omega arith) (omega arith) f c.loop-tested.invariant.run) }

pub returns-then-end-text-clause-run : goal.returns-then-end-text-clause-run
returns-then-end-text-clause-run c =
    let e = c.first_of-end.ensures in
    flat_run c.args.text.now c.args.from _ c.first_of-end.result (omega arith) e.bounds.0 e.bounds.1 e.free (search rules)

pub returns-else-end-text-clause-none : goal.returns-else-end-text-clause-none
returns-else-end-text-clause-none c =
    let t = c.args.text.now in
    let e = c.first_of-end.ensures in
    let all : c.first_of-end.result ≡ length t = omega arith in
    subst (InRun t c.args.from) all (flat_run t c.args.from _ c.first_of-end.result (omega arith) e.bounds.0 e.bounds.1 e.free (search rules))
