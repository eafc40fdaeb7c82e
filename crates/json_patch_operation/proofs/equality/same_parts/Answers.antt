use Rattle.json_patch_operation.proofs.Common.{rules, parts_view}
use Rattle.json_patch_operation.proofs.SameOperations.{parts_say}
use Rattle.json_patch_operation.proofs.equality.same_parts.Goals as goal

pub returns-then-eq-3-clause-same : goal.returns-then-eq-3-clause-same
returns-then-eq-3-clause-same c = parts_say c.same_if.result (parts_view c.args.a) (parts_view c.args.b) (search rules)
