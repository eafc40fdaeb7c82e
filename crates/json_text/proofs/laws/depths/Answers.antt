use Rattle.json_text.proofs.Deeper.{added_nests, removed_nests, replaced_nests, written_inside}
use Rattle.json_text.proofs.laws.depths.Goals as goal

pub returns-clause-written : goal.returns-clause-written
returns-clause-written c = written_inside

pub returns-clause-replaced : goal.returns-clause-replaced
returns-clause-replaced c = replaced_nests

pub returns-clause-removed : goal.returns-clause-removed
returns-clause-removed c = removed_nests

pub returns-clause-added : goal.returns-clause-added
returns-clause-added c = added_nests
