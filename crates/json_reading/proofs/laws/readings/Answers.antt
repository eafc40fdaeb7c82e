use Rattle.json_reading.proofs.Told.{same_exactly, some_reading, told_apart}
use Rattle.json_reading.proofs.laws.readings.Goals as goal

pub returns-clause-exists : goal.returns-clause-exists
returns-clause-exists c = some_reading

pub returns-clause-read_alike : goal.returns-clause-read_alike
returns-clause-read_alike c = same_exactly

pub returns-clause-told_apart : goal.returns-clause-told_apart
returns-clause-told_apart c = told_apart
