use Rattle.std.proofs.Common.{rules, string_bytes}
use Rattle.json_merge_text.proofs.Merges.{as_deep, says_merged}
use Rattle.json_merge_text.proofs.Unchanged.{nothing_changed}
use Rattle.json_merge_text.proofs.whole.merge_text.Goals as goal

pub returns-clause-merged : goal.returns-clause-merged
returns-clause-merged c = says_merged c.args.text.now c.args.patch.now (string_bytes c.in_ok-to_text.field-0) (search rules)

pub returns-clause-unchanged : goal.returns-clause-unchanged
returns-clause-unchanged c = nothing_changed c.args.text.now c.args.patch.now (string_bytes c.in_ok-to_text.field-0) (search rules)

pub returns-clause-depth : goal.returns-clause-depth
returns-clause-depth c = as_deep c.args.text.now c.args.patch.now (string_bytes c.in_ok-to_text.field-0) (search rules)

pub returns-clause-kept : goal.returns-clause-kept
returns-clause-kept c = search rules

pub returns-in_err-text-clause-fault : goal.returns-in_err-text-clause-fault
returns-in_err-text-clause-fault c = let fault = c.in_err-text.ensures.fault c.args.patch.now in search (rules, fault)
