use Rattle.std.proofs.Common.{◌+◌, ap, arith}
use lib.Count.{count_trailing_zeros}
use Rattle.json_lexemes.proofs.Wide.{free_on, free_load, free_stops}
use Rattle.json_lexemes.proofs.scan.first_of.Goals as goal

pub returns-then-found-ne0-clause-bounds : goal.returns-then-found-ne0-clause-bounds
returns-then-found-ne0-clause-bounds g c =
    let found = c.mask-found.ensures in
    let s = free_stops g.K.Sought.is_sought c.args.text.now c.args.from _ (omega arith) (omega (arith, found)) (ap (count_trailing_zeros 64) found) in
    (omega arith, omega (arith, s.within))

pub returns-then-found-ne0-clause-free : goal.returns-then-found-ne0-clause-free
returns-then-found-ne0-clause-free g c =
    let found = c.mask-found.ensures in
    (free_stops g.K.Sought.is_sought c.args.text.now c.args.from _ (omega arith) (omega (arith, found)) (ap (count_trailing_zeros 64) found)).free

pub returns-then-found-ne0-clause-stops : goal.returns-then-found-ne0-clause-stops
returns-then-found-ne0-clause-stops g c = λ h.
    let found = c.mask-found.ensures in
    (free_stops g.K.Sought.is_sought c.args.text.now c.args.from _ (omega arith) (omega (arith, found)) (ap (count_trailing_zeros 64) found)).stops

pub returns-clause-free : goal.returns-clause-free
returns-clause-free g c =
    let p = g.K.Sought.is_sought in
    let t = c.args.text.now in
    free_on p t c.args.from (c.args.from + 16) _ (free_load p t c.args.from (omega arith) (omega (arith, c.mask-found.ensures))) c.far_of-2.ensures.free
