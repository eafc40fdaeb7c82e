use Rattle.std.proofs.Common.{arith, ◌+◌, ◌≡◌, sym, ap, ◌∙◌, drop, Some, None}
use Rattle.std.proofs.lemmas.Str.{encode_ascii}
use Rattle.json.specs.Text.{content, plain, prepend}
use Rattle.json_lexemes.proofs.Inside.{backslash_end, backslash_u, backslash_short, some_by, none_by}
use Rattle.json_lexemes.proofs.Ended.{passes_by}
use Rattle.json_lexemes.proofs.Steps.{escape_passes}
use Rattle.json.specs.Lex.{in_string}
use Rattle.json_lexemes.specs.Places.{mode_at}
use Rattle.json_lexemes.proofs.Strings.{escape_closes, mode_by}
use Rattle.json_lexemes.proofs.names.escaped.Goals as goal

pub returns-then-i-text-clause-none : goal.returns-then-i-text-clause-none
returns-then-i-text-clause-none c = backslash_end c.args.text.now c.args.i c.if-i-text.true

pub returns-then-text-i-eq117-clause-some : goal.returns-then-text-i-eq117-clause-some
returns-then-text-i-eq117-clause-some c = some_by c.unicode.result _ _ _ (backslash_u c.args.text.now c.args.i (omega arith) c.if-text-i-eq117.true) c.unicode.ensures.some

pub returns-then-text-i-eq117-clause-none : goal.returns-then-text-i-eq117-clause-none
returns-then-text-i-eq117-clause-none c = none_by c.unicode.result _ _ (backslash_u c.args.text.now c.args.i (omega arith) c.if-text-i-eq117.true) c.unicode.ensures.none

pub returns-in-Some-clause-some : goal.returns-in-Some-clause-some
returns-in-Some-clause-some c =
    backslash_short c.args.text.now c.args.i (Some c.in-Some.c) (omega arith) c.if-text-i-eq117.false (sym c.in-Some.is ∙ c.short_escape.ensures.value)
    ∙ ap (λ b. prepend b (content plain (drop (c.args.i + 1) c.args.text.now))) (sym (encode_ascii c.in-Some.c c.in-Some.ensures.bound))

pub returns-in-None-clause-none : goal.returns-in-None-clause-none
returns-in-None-clause-none c = backslash_short c.args.text.now c.args.i None (omega arith) c.if-text-i-eq117.false (sym c.in-None.is ∙ c.short_escape.ensures.value)

pub returns-then-text-i-eq117-clause-passes : goal.returns-then-text-i-eq117-clause-passes
returns-then-text-i-eq117-clause-passes c = passes_by c.unicode.result _ _ _ (escape_passes c.args.text.now c.args.i (omega arith)) c.unicode.ensures.passes

pub returns-in-Some-clause-passes : goal.returns-in-Some-clause-passes
returns-in-Some-clause-passes c = escape_passes c.args.text.now c.args.i (omega arith)

pub returns-then-text-i-eq117-clause-mode : goal.returns-then-text-i-eq117-clause-mode
returns-then-text-i-eq117-clause-mode c = mode_by (λ r. mode_at c.args.text.now r.1 ≡ in_string) c.unicode.result (escape_closes c.args.text.now c.args.i (omega arith)) c.unicode.ensures.mode

pub returns-in-Some-clause-mode : goal.returns-in-Some-clause-mode
returns-in-Some-clause-mode c = escape_closes c.args.text.now c.args.i (omega arith)
