use Rattle.json_patch_text.proofs.Changes.{pointee_is, replaced_is, added_is, removed_is}
use Rattle.json_patch_text.proofs.laws.changes.Goals as goal

pub returns-clause-pointee : goal.returns-clause-pointee
returns-clause-pointee c = pointee_is

pub returns-clause-replaced : goal.returns-clause-replaced
returns-clause-replaced c = replaced_is

pub returns-clause-added : goal.returns-clause-added
returns-clause-added c = added_is

pub returns-clause-removed : goal.returns-clause-removed
returns-clause-removed c = removed_is
