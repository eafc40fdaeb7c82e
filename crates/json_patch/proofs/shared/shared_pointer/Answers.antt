use Rattle.json_patch.proofs.Common.{tokens_of}
use Rattle.json_patch_laws.proofs.SharedTokens.{even_if_none, first_shares_none, shares_all, shares_first, shares_more}
use Rattle.json_patch_laws.proofs.SharedTokens.{shares_none}
use Rattle.json_patch.proofs.shared.shared_pointer.Goals as goal

pub returns-in_err-shared-clause-none : goal.returns-in_err-shared-clause-none
returns-in_err-shared-clause-none c =
    even_if_none _ _ (first_shares_none c.args.patch.now c.in_ok-first.rest.now c.in_ok-first.first.now c.in_ok-first.ensures.cases.0 c.in_err-shared.ensures.none)

pub loop-operation-init : goal.loop-operation-init
loop-operation-init c =
    shares_first c.args.patch.now c.in_ok-first.rest.now c.in_ok-first.first.now (tokens_of c.in_ok-shared.shared) c.in_ok-first.ensures.cases.0 c.in_ok-shared.ensures.shared

pub returns-in_err-parent_of-clause-none : goal.returns-in_err-parent_of-clause-none
returns-in_err-parent_of-clause-none c =
    even_if_none _ _ (shares_none c.args.patch.now c.in_ok-first.rest.now c.loop-operation.operation-index c.operation-item.result (tokens_of c.loop-operation.shared) c.loop-operation-test.true c.operation-item.is c.loop-operation.invariant c.in_err-parent_of.ensures.none)

pub loop-operation-preserved : goal.loop-operation-preserved
loop-operation-preserved c =
    let m = c.shared_with-shared.ensures in
    shares_more c.args.patch.now c.in_ok-first.rest.now c.loop-operation.operation-index c.operation-item.result (tokens_of c.loop-operation.shared) (tokens_of c.in_ok-parent_of.field-0) (tokens_of c.shared_with-shared.result)
    c.loop-operation-test.true c.operation-item.is c.loop-operation.invariant c.in_ok-parent_of.ensures.shared m

pub returns-clause-shared : goal.returns-clause-shared
returns-clause-shared c =
    shares_all c.args.patch.now c.in_ok-first.rest.now c.in_ok-first.first.now c.loop-operation.operation-index (tokens_of c.loop-operation.shared) c.in_ok-first.ensures.cases.0 c.loop-operation-test.false c.loop-operation.invariant
