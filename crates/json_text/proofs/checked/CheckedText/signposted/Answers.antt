use Rattle.std.proofs.Common.{arith}
use Rattle.json_text.proofs.Readable.{nests_within, readable, shallow_within}
use Rattle.json_text.proofs.checked.CheckedText.signposted.Goals as goal

pub invariant_of-result : goal.invariant_of-result
invariant_of-result c =
    let t = c.args.text.now in
    let found = c.leaves_signposts.ensures in
    let says = found.says c.if-not-leaves_signposts.false in
    record { read = readable t (rw c.as_bytes.ensures.value at (shallow_within _ c.min.result (grind (arith, c.min.ensures)) says)); known = c.places-places.ensures t (rw c.as_bytes.ensures.value at (found.signposts c.if-not-leaves_signposts.false)) }

pub returns-clause-depth : goal.returns-clause-depth
returns-clause-depth c = rw c.as_bytes.ensures.value at (nests_within _ c.min.result c.args.levels (grind (arith, c.min.ensures)) (c.leaves_signposts.ensures.says c.if-not-leaves_signposts.false))
