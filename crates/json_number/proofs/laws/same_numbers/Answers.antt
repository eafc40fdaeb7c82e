use Rattle.json_number.proofs.Same.{same_transitive}
use Rattle.json_number.proofs.laws.same_numbers.Goals as goal

pub returns-clause-transitive : goal.returns-clause-transitive
returns-clause-transitive c = same_transitive
