use Rattle.json_patch_operation.proofs.Common.{rules, view, IsObject}
use Rattle.json_patch_operation.proofs.PatchFaults.{past_from}
use Rattle.json_patch_operation.proofs.reading.read_path.Goals as goal

pub returns-in_err-member : goal.returns-in_err-member
returns-in_err-member c = search (rules, past_from)

pub returns-in_err-text : goal.returns-in_err-text
returns-in_err-text c = search (rules, past_from)

pub returns-in_err-pointer : goal.returns-in_err-pointer
returns-in_err-pointer c = let object : IsObject (view c.args.value.now) = search rules in search (rules, past_from)
