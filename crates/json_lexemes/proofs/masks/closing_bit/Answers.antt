use Rattle.std.proofs.Common.{suc, arith}
use lib.Count.{count_trailing_zeros}
use Rattle.json_lexemes.proofs.Bits.{lowest, less_without, set_by_shift, clear_by_shift, cleared}
use Rattle.json_lexemes.proofs.Masked.{counts_begin, counts_end, from_k, stays_here, last_closes, counts_open, counts_shut}
use Rattle.json_lexemes.proofs.Passed.{few_close}
use Rattle.json_lexemes.proofs.masks.closing_bit.Goals.{then-opens-i-eq1, else-opens-i-eq1+else-open-eq1}
use Rattle.json_lexemes.proofs.masks.closing_bit.Goals as goal

pub loop-left-init : goal.loop-left-init
loop-left-init c = (0, counts_begin c.args.opens c.args.shuts c.args.depth c.requires.some)

pub returns-then-shuts-depth-clause-none : goal.returns-then-shuts-depth-clause-none
returns-then-shuts-depth-clause-none c = few_close c.args.opens c.args.shuts c.args.depth (omega arith) (omega arith)

pub overflow_add-open : goal.overflow_add-open
overflow_add-open c =
    let l = c.loop-left in
    let low = lowest l.left (omega arith) (omega arith) in
    let k = from_k c.args.opens c.args.shuts c.args.depth l.open l.left l.invariant.0 l.invariant.1 (count_trailing_zeros 64 l.left) low in
    omega (arith, k, low.within, l.invariant.1.bound, c.requires.bound)

pub returns-then-open-eq1-clause-open : goal.returns-then-open-eq1-clause-open
returns-then-open-eq1-clause-open c =
    let l = c.loop-left in
    stays_here c.args.opens c.args.shuts c.args.depth l.open l.left l.invariant.0 l.invariant.1 (count_trailing_zeros 64 l.left) (lowest l.left (omega arith) (omega arith))

pub returns-then-open-eq1-clause-closes : goal.returns-then-open-eq1-clause-closes
returns-then-open-eq1-clause-closes c =
    let l = c.loop-left in
    last_closes c.args.opens c.args.shuts c.args.depth l.open l.left l.invariant.0 l.invariant.1 (count_trailing_zeros 64 l.left) (lowest l.left (omega arith) (omega arith))
    (clear_by_shift c.args.opens (count_trailing_zeros 64 l.left) c.if-opens-i-eq1.false) c.if-open-eq1.true

pub loop-left-preserved : goal.loop-left-preserved
loop-left-preserved c =
    let l = c.loop-left in
    let i = count_trailing_zeros 64 l.left in
    let low = lowest l.left (omega arith) (omega arith) in
    elim c.if-opens-i-eq1.branch [
      | then-opens-i-eq1 w ↦ (suc i, counts_open c.args.opens c.args.shuts c.args.depth l.open l.left l.invariant.0 l.invariant.1 i low c.if-opens-i-eq1.open w.open-is (set_by_shift c.args.opens i w.if-opens-i-eq1.true))
      | else-opens-i-eq1+else-open-eq1 w ↦ (suc i, counts_shut c.args.opens c.args.shuts c.args.depth l.open l.left l.invariant.0 l.invariant.1 i low c.if-opens-i-eq1.open w.open-is (clear_by_shift c.args.opens i w.if-opens-i-eq1.false) w.if-open-eq1.false)
    ]

pub loop-left-smaller : goal.loop-left-smaller
loop-left-smaller c =
    let l = c.loop-left in
    let i = count_trailing_zeros 64 l.left in
    let low = lowest l.left (omega arith) (omega arith) in
    less_without l.left _ i low.here (cleared l.left i low.within)

pub returns-clause-none : goal.returns-clause-none
returns-clause-none c =
    let l = c.loop-left in
    counts_end c.args.opens c.args.shuts c.args.depth l.open l.left l.invariant.0 l.invariant.1 (omega arith)
