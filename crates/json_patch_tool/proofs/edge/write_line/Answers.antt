use Rattle.std.proofs.Common.{rules}
use Rattle.std.proofs.lemmas.List.{places}
use Rattle.json_patch_tool.proofs.MovedBytes.{sent_more}
use Rattle.json_patch_tool.proofs.edge.write_line.Goals as goal

pub loop-sent-preserved : goal.loop-sent-preserved
loop-sent-preserved g c =
    (search (rules, places), sent_more _ _ _ c.args.line.now c.loop-sent.sent c.in-Ok.n c.loop-sent.invariant.1 c.in-Ok.ensures.bytes, search rules, search rules)
