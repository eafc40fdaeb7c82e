use Rattle.json_reading.proofs.Trees.{same_exactly, told}
use Rattle.json_reading.proofs.laws.same_trees.Goals as goal

pub returns-clause-same_under_each : goal.returns-clause-same_under_each
returns-clause-same_under_each c = same_exactly

pub returns-clause-trees_told_apart : goal.returns-clause-trees_told_apart
returns-clause-trees_told_apart c = told
