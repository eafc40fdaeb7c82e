use Rattle.std.proofs.Common.{arith, ◌+◌, ◌≡◌, sym, ap, ◌∙◌, drop}
use Rattle.std.specs.Char.{encode_utf8}
use Rattle.json.specs.Text.{content, plain, prepend}
use Rattle.json_lexemes.proofs.Inside.{scalar_plain, u_short, u_none, u_high, u_low, u_plain, some_by, none_by}
use Rattle.json_lexemes.proofs.Ended.{unit_passes, passes_by}
use Rattle.json.specs.Lex.{in_string}
use Rattle.json_lexemes.specs.Places.{mode_at}
use Rattle.json_lexemes.proofs.Strings.{unit_mode, mode_by}
use Rattle.json_lexemes.proofs.names.unicode.Goals as goal

pub returns-then-text-i-lt4-clause-none : goal.returns-then-text-i-lt4-clause-none
returns-then-text-i-lt4-clause-none c = u_short c.args.text.now c.args.i c.if-text-i-lt4.true

pub returns-in_default-clause-none : goal.returns-in_default-clause-none
returns-in_default-clause-none c = u_none c.args.text.now c.args.i (omega arith) (sym c.code_unit.ensures.value ∙ c.in_default.is)

pub returns-then-unit-lt56320-clause-some : goal.returns-then-unit-lt56320-clause-some
returns-then-unit-lt56320-clause-some c =
    some_by c.second_half.result _ _ _ (u_high c.args.text.now c.args.i c.in-Some.unit (omega arith) (sym c.code_unit.ensures.value ∙ c.in-Some.is) c.if-unit-ge55296.true c.if-unit-lt56320.true) c.second_half.ensures.some

pub returns-then-unit-lt56320-clause-none : goal.returns-then-unit-lt56320-clause-none
returns-then-unit-lt56320-clause-none c =
    none_by c.second_half.result _ _ (u_high c.args.text.now c.args.i c.in-Some.unit (omega arith) (sym c.code_unit.ensures.value ∙ c.in-Some.is) c.if-unit-ge55296.true c.if-unit-lt56320.true) c.second_half.ensures.none

pub returns-in_default-from_u32-clause-none : goal.returns-in_default-from_u32-clause-none
returns-in_default-from_u32-clause-none c =
    u_low c.args.text.now c.args.i c.in-Some.unit (omega arith) (sym c.code_unit.ensures.value ∙ c.in-Some.is) (omega (arith, c.else-unit-ge55296.either, c.in_default-from_u32.ensures.cases, c.in-Some.ensures.bound)) (omega (arith, c.else-unit-ge55296.either, c.in_default-from_u32.ensures.cases, c.in-Some.ensures.bound))

pub returns-clause-some : goal.returns-clause-some
returns-clause-some c =
    u_plain c.args.text.now c.args.i c.in-Some.unit (omega arith) (sym c.code_unit.ensures.value ∙ c.in-Some.is) (scalar_plain _ _ c.in-Some-from_u32.ensures.cases)
    ∙ ap (λ k. prepend (encode_utf8 k) (content plain (drop (c.args.i + 4) c.args.text.now))) (sym c.in-Some-from_u32.ensures.value.1)

pub returns-then-unit-lt56320-clause-passes : goal.returns-then-unit-lt56320-clause-passes
returns-then-unit-lt56320-clause-passes c =
    passes_by c.second_half.result _ _ _ (unit_passes c.args.text.now c.args.i c.in-Some.unit (omega arith) (sym c.code_unit.ensures.value ∙ c.in-Some.is)) c.second_half.ensures.passes

pub returns-clause-passes : goal.returns-clause-passes
returns-clause-passes c = unit_passes c.args.text.now c.args.i c.in-Some.unit (omega arith) (sym c.code_unit.ensures.value ∙ c.in-Some.is)

pub returns-then-unit-lt56320-clause-mode : goal.returns-then-unit-lt56320-clause-mode
returns-then-unit-lt56320-clause-mode c = mode_by (λ r. mode_at c.args.text.now r.1 ≡ in_string) c.second_half.result (unit_mode c.args.text.now c.args.i c.in-Some.unit (omega arith) (sym c.code_unit.ensures.value ∙ c.in-Some.is)) c.second_half.ensures.mode

pub returns-clause-mode : goal.returns-clause-mode
returns-clause-mode c = unit_mode c.args.text.now c.args.i c.in-Some.unit (omega arith) (sym c.code_unit.ensures.value ∙ c.in-Some.is)
