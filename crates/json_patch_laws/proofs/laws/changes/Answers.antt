use Rattle.json_patch_edit.proofs.Changes.{added_there, removed_one, removed_computed, replaced_computed, replaced_one}
use Rattle.json_patch_laws.proofs.Blocks.{replace_elsewhere}
use Rattle.json_patch_laws.proofs.laws.changes.Goals as goal

pub returns-clause-added_at_a_target : goal.returns-clause-added_at_a_target
returns-clause-added_at_a_target c = added_there

pub returns-clause-one_removed : goal.returns-clause-one_removed
returns-clause-one_removed c = removed_one

pub returns-clause-removed_is_computed : goal.returns-clause-removed_is_computed
returns-clause-removed_is_computed c = removed_computed

pub returns-clause-one_replaced : goal.returns-clause-one_replaced
returns-clause-one_replaced c = replaced_one

pub returns-clause-replaced_is_computed : goal.returns-clause-replaced_is_computed
returns-clause-replaced_is_computed c = replaced_computed

pub returns-clause-replace_keeps_elsewhere : goal.returns-clause-replace_keeps_elsewhere
returns-clause-replace_keeps_elsewhere c = replace_elsewhere
