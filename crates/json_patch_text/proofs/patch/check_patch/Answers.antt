use Rattle.std.proofs.Common.{arith}
use Rattle.json_patch_text.proofs.Counted.{counted}
use Rattle.json_patch_text.proofs.patch.check_patch.Goals as goal

pub returns-clause-read : goal.returns-clause-read
returns-clause-read c = counted c.args.patch.now c.in_ok-said.said.items c.len.result (omega (arith, c.len.ensures)) c.in_ok-said.ensures.read
