use Rattle.std.proofs.Common.{◌<◌, ◌+◌, ◌^◌, not, cond, ◌&&◌, ap, ◌∙◌, arith}
use lib.Bits.{bit_and, and_le_l}
use lib.Count.{count_trailing_zeros}
use Rattle.json.specs.Scan.{test, escaped_in}
use Rattle.json_lexemes.proofs.Bits.{lowest, less_without, test_and, test_not, top_bit, flipped}
use Rattle.json_lexemes.proofs.Masked.{escapes_begin, escapes_on, escapes_end}
use Rattle.json_lexemes.proofs.masks.find_escaped.Goals as goal

pub loop-left-init : goal.loop-left-init
loop-left-init c = (cond c.args.carry 1 0, escapes_begin c.args.carry c.args.backslashes)

pub loop-left-preserved : goal.loop-left-preserved
loop-left-preserved c =
    let l = c.loop-left in
    let low = lowest l.left (omega arith) (omega arith) in
    (count_trailing_zeros 64 l.left + 2, escapes_on c.args.carry c.args.backslashes l.escaped l.left l.invariant.0 l.invariant.1 (count_trailing_zeros 64 l.left) low)

pub loop-left-smaller : goal.loop-left-smaller
loop-left-smaller c =
    let l = c.loop-left in
    let low = lowest l.left (omega arith) (omega arith) in
    let s = escapes_on c.args.carry c.args.backslashes l.escaped l.left l.invariant.0 l.invariant.1 (count_trailing_zeros 64 l.left) low in
    less_without l.left _ (count_trailing_zeros 64 l.left) low.here (s.passed (count_trailing_zeros 64 l.left) (omega arith))

pub returns-clause-bits : goal.returns-clause-bits
returns-clause-bits c =
    let l = c.loop-left in
    escapes_end c.args.carry c.args.backslashes l.escaped l.left l.invariant.0 l.invariant.1 (omega arith)

pub returns-clause-carry : goal.returns-clause-carry
unfolding escaped_in
returns-clause-carry c =
    let l = c.loop-left in
    let b = c.args.backslashes in
    let x = bit_and b (flipped l.escaped) in
    let small : x < 2 ^ 64 = omega (arith, and_le_l b (flipped l.escaped)) in
    top_bit x small ∙ test_and b (flipped l.escaped) 63
    ∙ ap (λ v. test b 63 && v)
    (test_not l.escaped 63 (omega arith) (omega arith) ∙ ap not (escapes_end c.args.carry b l.escaped l.left l.invariant.0 l.invariant.1 (omega arith) 63 (omega arith)))
