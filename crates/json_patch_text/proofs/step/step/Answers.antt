use Rattle.std.proofs.Common.{refl, subst, sym}
use Rattle.jsonptr.specs.Pointers.{tokens_of}
use Rattle.json_patch_text.proofs.Stepped.{add_stepped, costs_none, copy_costs, copy_stepped, move_stepped, remove_stepped, replace_stepped, taken_add, taken_copy, taken_move, taken_remove, taken_replace, test_costs, test_left}
use Rattle.json_patch_text.proofs.Logged.{logs_as}
use Rattle.json_patch_text.specs.Drafts.{draft_text}
use Rattle.json_patch_text.specs.Made.{Costs}
use Rattle.json_text.specs.Checked.{text_in}
use Rattle.json_patch_text.proofs.step.step.Goals as goal

pub returns-in-Add-clause-tree : goal.returns-in-Add-clause-tree
returns-in-Add-clause-tree c i op said h =
    add_stepped (draft_text c.args.draft.now) (text_in c.known-value.result) (draft_text c.added.new.draft) (tokens_of c.as_pointer.result) c.in-Add.path c.args.operation.now c.in-Add.value i op c.added.result
    c.in-Add.is c.as_pointer.ensures c.known-value.ensures c.added.ensures.made c.added.ensures.stopped said h

pub returns-in-Remove-clause-tree : goal.returns-in-Remove-clause-tree
returns-in-Remove-clause-tree c i op said h =
    remove_stepped (draft_text c.args.draft.now) (draft_text c.removed.new.draft) (tokens_of c.as_pointer-in-Remove.result) c.in-Remove.path c.args.operation.now i op c.removed.result
    c.in-Remove.is c.as_pointer-in-Remove.ensures c.removed.ensures.made c.removed.ensures.stopped said h

pub returns-in-Replace-clause-tree : goal.returns-in-Replace-clause-tree
returns-in-Replace-clause-tree c i op said h =
    replace_stepped (draft_text c.args.draft.now) (text_in c.known-value-in-Replace.result) (draft_text c.replaced.new.draft) (tokens_of c.as_pointer-in-Replace.result) c.in-Replace.path c.args.operation.now c.in-Replace.value i op c.replaced.result
    c.in-Replace.is c.as_pointer-in-Replace.ensures c.known-value-in-Replace.ensures c.replaced.ensures.made c.replaced.ensures.stopped said h

pub returns-in-Move-clause-tree : goal.returns-in-Move-clause-tree
returns-in-Move-clause-tree c i op said h =
    move_stepped (draft_text c.args.draft.now) (draft_text c.moved.new.draft) (tokens_of c.as_pointer-in-Move.result) c.in-Move.from (tokens_of c.as_pointer-in-Move-2.result) c.in-Move.path c.args.operation.now i op c.moved.result
    c.in-Move.is c.as_pointer-in-Move.ensures c.as_pointer-in-Move-2.ensures c.moved.ensures.tree c.moved.ensures.stopped said h

pub returns-in_ok-tested-in-Test-clause-tree : goal.returns-in_ok-tested-in-Test-clause-tree
returns-in_ok-tested-in-Test-clause-tree c i op said h =
    test_left (draft_text c.args.draft.now) (text_in c.known-value-in-Test.result) (draft_text c.tested.new.draft) (tokens_of c.as_pointer-in-Test.result) c.in-Test.path c.args.operation.now c.in-Test.value i op
    c.in-Test.is c.as_pointer-in-Test.ensures c.known-value-in-Test.ensures c.in_ok-tested-in-Test.ensures.kept c.in_ok-tested-in-Test.ensures.same said h

pub returns-in-Copy-clause-tree : goal.returns-in-Copy-clause-tree
returns-in-Copy-clause-tree c i op said h =
    copy_stepped (draft_text c.args.draft.now) (draft_text c.copied.new.draft) (tokens_of c.as_pointer-in-Copy.result) c.in-Copy.from (tokens_of c.as_pointer-in-Copy-2.result) c.in-Copy.path c.args.operation.now i op c.copied.result
    c.in-Copy.is c.as_pointer-in-Copy.ensures c.as_pointer-in-Copy-2.ensures c.copied.ensures.tree c.copied.ensures.stopped said h

pub returns-in-Add-clause-logs : goal.returns-in-Add-clause-logs
returns-in-Add-clause-logs c = logs_as c.args.log.now c.added.new.log c.added.result _ _ (λ us back. taken_add (draft_text c.args.draft.now) c.args.operation.now (tokens_of c.as_pointer.result) c.in-Add.path c.in-Add.value us c.in-Add.is c.as_pointer.ensures back) c.added.ensures.logs

pub returns-in-Remove-clause-logs : goal.returns-in-Remove-clause-logs
returns-in-Remove-clause-logs c = logs_as c.args.log.now c.removed.new.log c.removed.result _ _ (λ us back. taken_remove (draft_text c.args.draft.now) c.args.operation.now (tokens_of c.as_pointer-in-Remove.result) c.in-Remove.path us c.in-Remove.is c.as_pointer-in-Remove.ensures back) c.removed.ensures.logs

pub returns-in-Replace-clause-logs : goal.returns-in-Replace-clause-logs
returns-in-Replace-clause-logs c =
    logs_as c.args.log.now c.replaced.new.log c.replaced.result _ _ (λ us back. taken_replace (draft_text c.args.draft.now) c.args.operation.now (tokens_of c.as_pointer-in-Replace.result) c.in-Replace.path c.in-Replace.value us c.in-Replace.is c.as_pointer-in-Replace.ensures back) c.replaced.ensures.logs

pub returns-in-Move-clause-logs : goal.returns-in-Move-clause-logs
returns-in-Move-clause-logs c =
    logs_as c.args.log.now c.moved.new.log c.moved.result _ _
    (λ us back. taken_move (draft_text c.args.draft.now) c.args.operation.now (tokens_of c.as_pointer-in-Move.result) c.in-Move.from (tokens_of c.as_pointer-in-Move-2.result) c.in-Move.path us c.in-Move.is c.as_pointer-in-Move.ensures c.as_pointer-in-Move-2.ensures back) c.moved.ensures.logs

pub returns-in-Copy-clause-logs : goal.returns-in-Copy-clause-logs
returns-in-Copy-clause-logs c =
    logs_as c.args.log.now c.copied.new.log c.copied.result _ _ (λ us back. taken_copy (draft_text c.args.draft.now) c.args.operation.now c.in-Copy.from (tokens_of c.as_pointer-in-Copy-2.result) c.in-Copy.path us c.in-Copy.is c.as_pointer-in-Copy-2.ensures back) c.copied.ensures.logs

pub returns-in-Add-clause-counted : goal.returns-in-Add-clause-counted
returns-in-Add-clause-counted c = costs_none (draft_text c.args.draft.now) c.args.operation.now c.args.log.now c.added.new.log c.added.result (subst (λ o. Costs (draft_text c.args.draft.now) o 0) (sym c.in-Add.is) refl) c.added.ensures.counted

pub returns-in-Remove-clause-counted : goal.returns-in-Remove-clause-counted
returns-in-Remove-clause-counted c = costs_none (draft_text c.args.draft.now) c.args.operation.now c.args.log.now c.removed.new.log c.removed.result (subst (λ o. Costs (draft_text c.args.draft.now) o 0) (sym c.in-Remove.is) refl) c.removed.ensures.counted

pub returns-in-Replace-clause-counted : goal.returns-in-Replace-clause-counted
returns-in-Replace-clause-counted c = costs_none (draft_text c.args.draft.now) c.args.operation.now c.args.log.now c.replaced.new.log c.replaced.result (subst (λ o. Costs (draft_text c.args.draft.now) o 0) (sym c.in-Replace.is) refl) c.replaced.ensures.counted

pub returns-in-Move-clause-counted : goal.returns-in-Move-clause-counted
returns-in-Move-clause-counted c = costs_none (draft_text c.args.draft.now) c.args.operation.now c.args.log.now c.moved.new.log c.moved.result (subst (λ o. Costs (draft_text c.args.draft.now) o 0) (sym c.in-Move.is) refl) c.moved.ensures.counted

pub returns-in-Copy-clause-counted : goal.returns-in-Copy-clause-counted
returns-in-Copy-clause-counted c = copy_costs (draft_text c.args.draft.now) c.args.operation.now c.in-Copy.from (tokens_of c.as_pointer-in-Copy.result) c.in-Copy.path c.args.log.now c.copied.new.log c.copied.result c.in-Copy.is c.as_pointer-in-Copy.ensures c.copied.ensures.counted

pub returns-in_ok-tested-in-Test-clause-counted : goal.returns-in_ok-tested-in-Test-clause-counted
returns-in_ok-tested-in-Test-clause-counted c =
    test_costs (draft_text c.args.draft.now) (text_in c.known-value-in-Test.result) (tokens_of c.as_pointer-in-Test.result) c.in-Test.path c.in-Test.value c.args.operation.now c.args.log.now c.tested.new.log
    c.in-Test.is c.as_pointer-in-Test.ensures c.known-value-in-Test.ensures c.in_ok-tested-in-Test.ensures.counted
