use Rattle.json_patch_operation.proofs.Common.{[], null, add, remove, replace, move, copy, test}
use Rattle.json_patch_operation.proofs.PatchFaults.{named_fault}
use Rattle.json_patch_operation.proofs.operation.PatchOperation.from_value.Goals as goal

pub returns-in_err-from_value-in-add-clause-refused : goal.returns-in_err-from_value-in-add-clause-refused
returns-in_err-from_value-in-add-clause-refused c = named_fault (add [] null) _ _ _ _ c.in_ok-read_name.ensures.read c.in-add.is c.in_err-from_value-in-add.ensures.refused c.from_residual-in_err-from_value-in-add.ensures.1

pub returns-in_err-from_value-in-remove-clause-refused : goal.returns-in_err-from_value-in-remove-clause-refused
returns-in_err-from_value-in-remove-clause-refused c = named_fault (remove []) _ _ _ _ c.in_ok-read_name.ensures.read c.in-remove.is c.in_err-from_value-in-remove.ensures.refused c.from_residual-in_err-from_value-in-remove.ensures.1

pub returns-in_err-from_value-in-replace-clause-refused : goal.returns-in_err-from_value-in-replace-clause-refused
returns-in_err-from_value-in-replace-clause-refused c = named_fault (replace [] null) _ _ _ _ c.in_ok-read_name.ensures.read c.in-replace.is c.in_err-from_value-in-replace.ensures.refused c.from_residual-in_err-from_value-in-replace.ensures.1

pub returns-in_err-from_value-in-move-clause-refused : goal.returns-in_err-from_value-in-move-clause-refused
returns-in_err-from_value-in-move-clause-refused c = named_fault (move [] []) _ _ _ _ c.in_ok-read_name.ensures.read c.in-move.is c.in_err-from_value-in-move.ensures.refused c.from_residual-in_err-from_value-in-move.ensures.1

pub returns-in_err-from_value-in-copy-clause-refused : goal.returns-in_err-from_value-in-copy-clause-refused
returns-in_err-from_value-in-copy-clause-refused c = named_fault (copy [] []) _ _ _ _ c.in_ok-read_name.ensures.read c.in-copy.is c.in_err-from_value-in-copy.ensures.refused c.from_residual-in_err-from_value-in-copy.ensures.1

pub returns-in_err-from_value-in-test-clause-refused : goal.returns-in_err-from_value-in-test-clause-refused
returns-in_err-from_value-in-test-clause-refused c = named_fault (test [] null) _ _ _ _ c.in_ok-read_name.ensures.read c.in-test.is c.in_err-from_value-in-test.ensures.refused c.from_residual-in_err-from_value-in-test.ensures.1
