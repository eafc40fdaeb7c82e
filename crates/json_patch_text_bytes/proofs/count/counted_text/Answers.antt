use Rattle.std.proofs.Common.{arith}
use Rattle.json_patch_text_bytes.proofs.Faults.{few_said}
use Rattle.json_patch_text_bytes.proofs.count.counted_text.Goals as goal

pub returns-else-count-most-clause-few : goal.returns-else-count-most-clause-few
returns-else-count-most-clause-few c =
    rw c.in-Some.is (few_said c.in-Some.most c.in-Ok-check_patch.count c.args.patch.now c.in-Ok.flat.now c.in-Ok.ensures.text.0 (omega (arith, c.if-count-most.false)) c.in-Ok-check_patch.ensures.read)
