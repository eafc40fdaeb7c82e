use Rattle.json_patch_tool.proofs.Runs.{refused_at}
use Rattle.json_patch_tool.proofs.edge.run_watched.Goals as goal

pub returns-in_err-line-clause-refused : goal.returns-in_err-line-clause-refused
returns-in_err-line-clause-refused g c =
    refused_at c.args.mode _ c.in_ok-input.input.items c.deref.result.now c.in_err-line.field-0.0 c.from_residual-in_err-line.result
    c.in_ok-input.ensures.whole c.deref.ensures.value c.in_err-line.ensures.fault c.from_residual-in_err-line.ensures.1
