use Rattle.json_patch_operation.proofs.PatchValues.{read_or_refused, read_alone_or_refused, read_like_or_refused}
use Rattle.json_patch_laws.proofs.laws.values.Goals as goal

pub returns-clause-read_or_refused : goal.returns-clause-read_or_refused
returns-clause-read_or_refused c = read_or_refused

pub returns-clause-read_alone_or_refused : goal.returns-clause-read_alone_or_refused
returns-clause-read_alone_or_refused c = read_alone_or_refused

pub returns-clause-read_like_or_refused : goal.returns-clause-read_like_or_refused
returns-clause-read_like_or_refused c = read_like_or_refused
