use Rattle.json_merge_diff.proofs.Existing.{leads_or_wants as leads_or_wants_it, part_of_each as part_of_each_is}
use Rattle.json_merge_diff.proofs.Results.{wanted}
use Rattle.json_merge_diff.proofs.Sizes.{part_size as size_of_part}
use Rattle.json_merge_diff.proofs.laws.leading.Goals as goal

pub returns-clause-leads_or_wants : goal.returns-clause-leads_or_wants
returns-clause-leads_or_wants c = leads_or_wants_it

pub returns-clause-wants_none : goal.returns-clause-wants_none
returns-clause-wants_none c = wanted

pub returns-clause-part_size : goal.returns-clause-part_size
returns-clause-part_size c = size_of_part

pub returns-clause-part_of_each : goal.returns-clause-part_of_each
returns-clause-part_of_each c = part_of_each_is
