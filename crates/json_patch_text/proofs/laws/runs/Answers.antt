use Rattle.json_patch_text.proofs.Runs.{ends, not_refused, one_end, one_refusal, tests}
use Rattle.json_patch_text.proofs.laws.runs.Goals as goal

pub returns-clause-ends : goal.returns-clause-ends
returns-clause-ends c = ends

pub returns-clause-not_both : goal.returns-clause-not_both
returns-clause-not_both c i j ops k kind a (before, (r, n)) = not_refused i j ops k kind r a n

pub returns-clause-one_end : goal.returns-clause-one_end
returns-clause-one_end c = one_end

pub returns-clause-one_refusal : goal.returns-clause-one_refusal
returns-clause-one_refusal c = one_refusal

pub returns-clause-tests : goal.returns-clause-tests
returns-clause-tests c = tests
