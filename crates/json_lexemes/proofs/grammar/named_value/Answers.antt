use Rattle.std.proofs.Common.{◌≡◌, ◌-◌, ◌+◌, subst, drop, arith}
use Rattle.json.specs.Lex.{in_string, lex}
use Rattle.json_lexemes.specs.Places.{left_at}
use Rattle.json_lexemes.specs.Grammar.{HasContent}
use Rattle.json_lexemes.proofs.Completed.{named_by, named_from}
use Rattle.json_lexemes.proofs.Strings.{mode_then}
use Rattle.json_lexemes.proofs.grammar.named_value.Goals as goal

pub returns-clause-named : goal.returns-clause-named
returns-clause-named c =
    let t = c.args.text.now in
    let k = c.in_ok-inside.inside in
    let same : k ≡ k - 1 + 1 = omega (arith, c.in_ok-inside.ensures.bounds) in
    named_from t c.args.from (k - 1) c.behind_operator.result c.in_ok-inside.ensures.left
    (named_by t (k - 1) c.in_ok-end.end c.behind_operator.result (omega (arith, c.in_ok-inside.ensures.bounds)) c.in_ok-inside.ensures.quote
    (subst (λ j. lex in_string (drop j t) ≡ left_at t c.in_ok-end.end) same c.in_ok-end.ensures.left) (subst (HasContent t) same c.in_ok-end.ensures.content) c.behind_operator.ensures.left)

pub returns-clause-end : goal.returns-clause-end
returns-clause-end c =
    mode_then c.args.text.now c.args.from c.in_ok-end.end c.behind_operator.result (λ e. c.in_ok-end.ensures.closes (c.in_ok-inside.ensures.opens e)) c.behind_operator.ensures.begins
