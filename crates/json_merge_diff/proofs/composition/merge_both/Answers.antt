use Rattle.std.proofs.lemmas.Result.{IfOk-weaker}
use Rattle.json_merge_diff.proofs.Both.{it_does, it_is_composed, it_never_does, it_resets}
use Rattle.json_merge_diff.proofs.composition.merge_both.Goals as goal

pub returns-clause-both : goal.returns-clause-both
returns-clause-both c = IfOk-weaker _ _ _ (λ o h. it_does _ _ o (h c.requires.first c.requires.then)) c.composed.ensures

pub returns-clause-by_name : goal.returns-clause-by_name
returns-clause-by_name c = IfOk-weaker _ _ _ (λ o h. it_is_composed _ _ o (h c.requires.first c.requires.then)) c.composed.ensures

pub returns-clause-impossible : goal.returns-clause-impossible
returns-clause-impossible c = IfOk-weaker _ _ _ (λ o h. it_never_does _ _ o c.requires.first c.requires.then (h c.requires.first c.requires.then)) c.composed.ensures

pub returns-clause-resets : goal.returns-clause-resets
returns-clause-resets c = IfOk-weaker _ _ _ (λ o h. it_resets _ _ o c.requires.first c.requires.then (h c.requires.first c.requires.then)) c.composed.ensures
