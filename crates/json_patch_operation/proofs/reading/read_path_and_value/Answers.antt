use Rattle.json_patch_operation.proofs.Common.{rules}
use Rattle.json_patch_operation.proofs.PatchFaults.{past_path}
use Rattle.json_patch_operation.proofs.reading.read_path_and_value.Goals as goal

pub returns-in_err-member : goal.returns-in_err-member
returns-in_err-member c = search (rules, past_path)

pub returns-then-not-is_whole : goal.returns-then-not-is_whole
returns-then-not-is_whole c = search (rules, past_path)
