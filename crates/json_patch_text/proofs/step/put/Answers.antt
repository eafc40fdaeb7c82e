use Rattle.json_patch_text.proofs.Kept.{kept_more}
use Rattle.json_patch_text.proofs.step.put.Goals as goal

pub returns-in_err-put-clause-back : goal.returns-in_err-put-clause-back
returns-in_err-put-clause-back c = kept_more _ _ _ c.added.ensures.back c.put.ensures.back

pub returns-then-branch-clause-back : goal.returns-then-branch-clause-back
returns-then-branch-clause-back c = kept_more _ _ _ c.added.ensures.back c.put.ensures.back

pub returns-else-branch-clause-back : goal.returns-else-branch-clause-back
returns-else-branch-clause-back c = kept_more _ _ _ c.added.ensures.back c.put.ensures.back
