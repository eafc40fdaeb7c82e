use Rattle.std.proofs.Common.{arith}
use Rattle.json_lexemes.proofs.Seen.{first_seen}
use Rattle.json_lexemes.proofs.stops.seen_stop.Goals as goal

pub returns-clause-bounds : goal.returns-clause-bounds
returns-clause-bounds c =
    let s = first_seen c.args.text.now c.args.stops.base c.args.stops.bits c.args.from _ c.requires.stops (λ h. omega (arith, h)) (omega arith) c.if-left-eq0.false in
    (omega arith, s.within)

pub returns-clause-plain : goal.returns-clause-plain
returns-clause-plain c = (first_seen c.args.text.now c.args.stops.base c.args.stops.bits c.args.from _ c.requires.stops (λ h. omega (arith, h)) (omega arith) c.if-left-eq0.false).free
