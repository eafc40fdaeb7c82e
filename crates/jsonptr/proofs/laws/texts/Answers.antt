use Rattle.jsonptr.specs.TextLaws.{pointer_or_fault}
use Rattle.jsonptr.proofs.laws.texts.Goals as goal

pub returns-clause-pointer_or_fault : goal.returns-clause-pointer_or_fault
returns-clause-pointer_or_fault c = pointer_or_fault
