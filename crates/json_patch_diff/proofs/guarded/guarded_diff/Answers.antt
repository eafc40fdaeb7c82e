use Rattle.std.proofs.Common.{arith}
use Rattle.std.proofs.lemmas.Result.{IfOk-weaker}
use Rattle.json_patch.specs.Operation.{operations, operations_of}
use Rattle.json_patch_diff.proofs.Guards.{accepts_beside, beside, guarded_few, guarded_leads, guarded_nothing}
use Rattle.json_patch_diff.proofs.guarded.guarded_diff.Goals as goal

pub returns-clause-leads : goal.returns-clause-leads
returns-clause-leads c =
    IfOk-weaker c.with_guards.result _ _ (λ p made. guarded_leads c.runs.ensures.run_keeps_documents c.runs.ensures.run_ends _ _ (operations_of p) _ c.requires.from c.in_ok-changes.ensures.whole made c.in_ok-changes.ensures.leads) c.with_guards.ensures.guarded

pub returns-clause-nothing : goal.returns-clause-nothing
returns-clause-nothing c =
    let equal = c.in_ok-changes.ensures.nothing in
    IfOk-weaker c.with_guards.result _ _ (λ p made. let same = guarded_nothing _ _ (operations_of p) made in (λ is. equal.0 (same.0 is), λ is. same.1 (equal.1 is))) c.with_guards.ensures.guarded

pub returns-clause-few : goal.returns-clause-few
returns-clause-few c =
    let few = c.in_ok-changes.ensures.few in
    IfOk-weaker c.with_guards.result _ _ (λ p made. let twice = guarded_few _ _ (operations_of p) made in omega arith) c.with_guards.ensures.guarded

pub returns-clause-guarded : goal.returns-clause-guarded
returns-clause-guarded c =
    IfOk-weaker c.with_guards.result _ _ (λ p made. (operations c.in_ok-changes.changes.0.items, c.in_ok-changes.ensures.plain, made)) c.with_guards.ensures.guarded

pub returns-clause-refused : goal.returns-clause-refused
returns-clause-refused c =
    IfOk-weaker c.with_guards.result _ _ (λ p made. (
      operations c.in_ok-changes.changes.0.items,
      made,
      λ x e. (beside _ x _ _ e made, accepts_beside c.documents.ensures.found_is_computed c.runs.ensures.step_left c.runs.ensures.run_keeps_documents _ x _ _ e c.requires.from c.in_ok-changes.ensures.whole made),
    )) c.with_guards.ensures.guarded
