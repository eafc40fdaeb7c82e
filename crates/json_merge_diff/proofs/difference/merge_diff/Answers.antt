use Rattle.std.proofs.lemmas.Result.{IfOk-weaker}
use Rattle.json_merge_diff.proofs.Results.{it_leads, it_is_least, it_is_empty, it_is_small}
use Rattle.json_merge_diff.proofs.difference.merge_diff.Goals as goal

pub returns-clause-leads : goal.returns-clause-leads
returns-clause-leads c = IfOk-weaker _ _ _ (λ o. it_leads _ _ o) c.least_patch.ensures

pub returns-clause-least : goal.returns-clause-least
returns-clause-least c = IfOk-weaker _ _ _ (λ o. it_is_least _ _ o) c.least_patch.ensures

pub returns-clause-nothing : goal.returns-clause-nothing
returns-clause-nothing c = IfOk-weaker _ _ _ (λ o. it_is_empty _ _ o c.requires.from c.requires.to) c.least_patch.ensures

pub returns-clause-small : goal.returns-clause-small
returns-clause-small c = IfOk-weaker _ _ _ (λ o. it_is_small _ _ o) c.least_patch.ensures
