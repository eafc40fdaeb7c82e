use Rattle.json_patch_text.proofs.WholeNumbers.{end_as_read, refused_as_read}
use Rattle.json_patch_text.proofs.laws.whole_numbers.Goals as goal

pub returns-clause-accepted_alike : goal.returns-clause-accepted_alike
returns-clause-accepted_alike c i j p d v e ops os hd wd hp wp t o a h r = end_as_read i j p d v e ops os r hd wd hp wp t o a h

pub returns-clause-refused_alike : goal.returns-clause-refused_alike
returns-clause-refused_alike c = refused_as_read
