use Rattle.json_patch_operation.proofs.Common.{rules, take_all, the_lemmas}
use Rattle.json_patch_operation.proofs.PatchFaults.{item_refused, item_read, reads_whole}
use Rattle.json_patch_operation.proofs.operation.Patch.from_value.Goals as goal

pub returns-in-Err-Refused-clause-refused : goal.returns-in-Err-Refused-clause-refused
returns-in-Err-Refused-clause-refused c = search (rules, the_lemmas, item_refused)

pub loop-number-preserved : goal.loop-number-preserved
loop-number-preserved c = search (rules, item_read)

pub returns-clause-whole : goal.returns-clause-whole
returns-clause-whole c = search (rules, reads_whole _ _ c.loop-number.invariant)

pub returns-clause-read : goal.returns-clause-read
returns-clause-read c = search (rules, the_lemmas, take_all)
