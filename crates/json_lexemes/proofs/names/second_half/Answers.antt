use Rattle.std.proofs.Common.{arith, ◌+◌, sym, ap, ◌∙◌, drop}
use Rattle.std.specs.Char.{encode_utf8}
use Rattle.json.specs.Text.{content, plain, prepend}
use Rattle.json_lexemes.proofs.Inside.{apart_low, unit_there, no_escape_first, no_escape_second, high_short, high_no_escape, high_none, high_apart, high_pair}
use Rattle.json_lexemes.proofs.Ended.{pair_passes}
use Rattle.json_lexemes.proofs.Strings.{pair_mode}
use Rattle.json_lexemes.proofs.names.second_half.Goals as goal
use Rattle.json_lexemes.proofs.names.second_half.Goals.{then-text-i-ne92-via-then-text-i-ne92, then-text-i-ne92-via-else-text-i-ne92+then-text-i-ne117}

pub returns-then-text-i-lt6-clause-none : goal.returns-then-text-i-lt6-clause-none
returns-then-text-i-lt6-clause-none c = high_short c.args.text.now c.args.i c.args.high c.if-text-i-lt6.true

pub returns-then-text-i-ne92-clause-none : goal.returns-then-text-i-ne92-clause-none
returns-then-text-i-ne92-clause-none c =
    high_no_escape c.args.text.now c.args.i c.args.high (omega arith) (elim c.then-text-i-ne92.branch [
      | then-text-i-ne92-via-then-text-i-ne92 w ↦ no_escape_first _ _ w.if-text-i-ne92.true
      | then-text-i-ne92-via-else-text-i-ne92+then-text-i-ne117 w ↦ no_escape_second _ _ w.if-text-i-ne117.true
    ])

pub returns-in_default-clause-none : goal.returns-in_default-clause-none
returns-in_default-clause-none c = high_none c.args.text.now c.args.i c.args.high (omega arith) c.if-text-i-ne92.false c.if-text-i-ne117.false (unit_there c.args.text.now c.args.i ∙ sym c.code_unit.ensures.value ∙ c.in_default.is)

pub returns-then-low-lt56320-clause-none : goal.returns-then-low-lt56320-clause-none
returns-then-low-lt56320-clause-none c =
    high_apart c.args.text.now c.args.i c.args.high c.in-Some.low (omega arith) c.if-text-i-ne92.false c.if-text-i-ne117.false (unit_there c.args.text.now c.args.i ∙ sym c.code_unit.ensures.value ∙ c.in-Some.is) (apart_low c.in-Some.low c.then-low-lt56320.either)

pub returns-clause-some : goal.returns-clause-some
returns-clause-some c =
    high_pair c.args.text.now c.args.i c.args.high c.in-Some.low (omega arith) c.if-text-i-ne92.false c.if-text-i-ne117.false (unit_there c.args.text.now c.args.i ∙ sym c.code_unit.ensures.value ∙ c.in-Some.is) c.if-low-lt56320.false c.if-low-ge57344.false
    ∙ ap (λ k. prepend (encode_utf8 k) (content plain (drop (c.args.i + 6) c.args.text.now))) (sym c.in-Some-from_u32.ensures.value.1)

pub returns-clause-passes : goal.returns-clause-passes
returns-clause-passes c = pair_passes c.args.text.now c.args.i c.in-Some.low (omega arith) c.if-text-i-ne92.false (unit_there c.args.text.now c.args.i ∙ sym c.code_unit.ensures.value ∙ c.in-Some.is)

pub returns-clause-mode : goal.returns-clause-mode
returns-clause-mode c = pair_mode c.args.text.now c.args.i c.in-Some.low (omega arith) c.if-text-i-ne92.false (unit_there c.args.text.now c.args.i ∙ sym c.code_unit.ensures.value ∙ c.in-Some.is)
