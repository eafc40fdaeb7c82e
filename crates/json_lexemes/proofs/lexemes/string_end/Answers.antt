use Rattle.std.proofs.Common.{sym, ◌∙◌, arith}
use Rattle.std.proofs.lemmas.Str.{IsCharBoundary-after_ascii}
use Rattle.json_lexemes.proofs.Steps.{string_closes, closes_now}
use Rattle.json_lexemes.proofs.Runs.{unescaped_left, unescaped_mode}
use Rattle.json_lexemes.proofs.lexemes.string_end.Goals as goal

pub returns-clause-left : goal.returns-clause-left
returns-clause-left c =
    let t = c.args.text.now in
    let found = c.in-Some.ensures in
    sym (string_closes t c.in-Some.i found.bounds.1 found.quote) ∙ unescaped_left t c.args.from c.in-Some.i found.inside (c.may_be_escaped.ensures c.if-may_be_escaped.false)

pub returns-clause-mode : goal.returns-clause-mode
returns-clause-mode c = λ m.
    let t = c.args.text.now in
    let found = c.in-Some.ensures in
    closes_now t c.in-Some.i found.bounds.1 found.quote (unescaped_mode t c.args.from c.in-Some.i found.inside (c.may_be_escaped.ensures c.if-may_be_escaped.false) m)

pub returns-clause-boundary : goal.returns-clause-boundary
returns-clause-boundary c = λ u. let q = c.in-Some.ensures.quote in IsCharBoundary-after_ascii c.args.text.now c.in-Some.i u c.in-Some.ensures.bounds.1 (omega (arith, q))
