use Rattle.std.proofs.Common.{arith}
use Rattle.json_text.proofs.Readable.{nests_within}
use Rattle.json_text.proofs.checked.CheckedText.within.Goals as goal

pub returns-then-is_json_within-clause-depth : goal.returns-then-is_json_within-clause-depth
returns-then-is_json_within-clause-depth c = rw c.as_bytes.ensures.value at (nests_within _ c.min.result c.args.levels (grind (arith, c.min.ensures)) (c.is_json_within.ensures c.if-is_json_within.true))
