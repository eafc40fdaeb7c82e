use Rattle.std.proofs.Common.{arith}
use Rattle.json_text.proofs.Rows.Pieces.{in_three, whitespace_around}
use Rattle.json_text.proofs.cuts.split_off_whitespace.Goals as goal

pub returns-clause-whole : goal.returns-clause-whole
returns-clause-whole c = in_three c.args.text.now _ _ _ c.whole-place.result.start c.whole-place.result.end c.whole-place.ensures.within.order c.range.ensures.value c.range-2.ensures.value c.range_from.ensures.value

pub returns-clause-whitespace : goal.returns-clause-whitespace
returns-clause-whitespace c =
    let w = c.whole-place.ensures in
    whitespace_around c.args.text.now c.as_bytes.result.now _ _ c.whole-place.result.start c.whole-place.result.end c.as_bytes.ensures.value (omega (arith, w.within.order, w.within.fits)) w.starts w.begins w.ends c.range.ensures.value c.range_from.ensures.value
