use Rattle.json_patch_operation.proofs.Common.{rules, from_and_path}
use Rattle.json_patch_operation.proofs.reading.read_from_and_path.Goals as goal

pub returns-in_err-path-clause-refused : goal.returns-in_err-path-clause-refused
returns-in_err-path-clause-refused c = search (rules, c.in_err-path.ensures.refused from_and_path (λ _. search rules))
