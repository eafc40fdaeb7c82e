use Rattle.json_merge_diff.proofs.Existing.{does_or_resets as does_or_resets_it, resets_none as none_does}
use Rattle.json_merge_diff.proofs.laws.composing.Goals as goal

pub returns-clause-does_or_resets : goal.returns-clause-does_or_resets
returns-clause-does_or_resets c = does_or_resets_it

pub returns-clause-resets_none : goal.returns-clause-resets_none
returns-clause-resets_none c = none_does
