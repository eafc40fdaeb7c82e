use Rattle.json_patch_text.proofs.Kept.{kept_more}
use Rattle.std.proofs.Common.{◌∙◌, subst, sym}
use Rattle.json_lexemes.specs.Spelled.{Says}
use Rattle.json_patch_text.specs.Drafts.{draft_text}
use Rattle.json_patch_text.proofs.Undone.{in_an_array, put_back, taken_out}
use Rattle.json_patch_text.proofs.undo.undo_added.Goals as goal
use Rattle.jsonptr.specs.Pointers.{tokens_of}

pub returns-then-branch-clause-undo : goal.returns-then-branch-clause-undo
returns-then-branch-clause-undo c i said =
    in_an_array (draft_text c.args.draft.now) i (tokens_of c.args.path) c.in_ok-settled.field-0 (sym (c.in_ok-in_array.ensures.array i said) ∙ c.if-branch.true)
    (λ F l js e at. c.in_ok-settled.ensures.place i F l js (subst (λ t. Says t i) (sym c.in_ok-in_array.ensures.kept) said) e at)

pub returns-in_ok-to_buf-in-Some-clause-undo : goal.returns-in_ok-to_buf-in-Some-clause-undo
returns-in_ok-to_buf-in-Some-clause-undo c i said =
    let (j, shallow, written) = rw (c.in-Some.is, c.in_ok-in_array.ensures.kept) at c.in_ok-old.ensures.value in
    put_back (draft_text c.args.draft.now) i j (tokens_of c.args.path) c.in_ok-to_buf-in-Some.field-0 c.in-Some.old said shallow (sym (c.in_ok-in_array.ensures.array i said) ∙ c.if-branch.false) c.in_ok-to_buf-in-Some.ensures written

pub returns-in_ok-to_buf-in-None-clause-undo : goal.returns-in_ok-to_buf-in-None-clause-undo
returns-in_ok-to_buf-in-None-clause-undo c i said =
    let (j, shallow, none) = rw (c.in-None.is, c.in_ok-in_array.ensures.kept) at c.in_ok-old.ensures.value in
    taken_out (draft_text c.args.draft.now) i j (tokens_of c.args.path) c.in_ok-to_buf-in-None.field-0 said shallow (sym (c.in_ok-in_array.ensures.array i said) ∙ c.if-branch.false) c.in_ok-to_buf-in-None.ensures none

pub returns-in_err-settled-clause-back : goal.returns-in_err-settled-clause-back
returns-in_err-settled-clause-back c = kept_more _ _ _ c.in_array.ensures.back c.settled.ensures.back

pub returns-then-branch-clause-back : goal.returns-then-branch-clause-back
returns-then-branch-clause-back c = kept_more _ _ _ c.in_array.ensures.back c.settled.ensures.back

pub returns-in_err-old-clause-back : goal.returns-in_err-old-clause-back
returns-in_err-old-clause-back c = kept_more _ _ _ c.in_array.ensures.back c.value.ensures.back

pub returns-in_err-to_buf-in-Some-clause-back : goal.returns-in_err-to_buf-in-Some-clause-back
returns-in_err-to_buf-in-Some-clause-back c = kept_more _ _ _ c.in_array.ensures.back c.value.ensures.back

pub returns-in_err-to_buf-in-None-clause-back : goal.returns-in_err-to_buf-in-None-clause-back
returns-in_err-to_buf-in-None-clause-back c = kept_more _ _ _ c.in_array.ensures.back c.value.ensures.back

pub returns-in_ok-to_buf-in-Some-clause-back : goal.returns-in_ok-to_buf-in-Some-clause-back
returns-in_ok-to_buf-in-Some-clause-back c = kept_more _ _ _ c.in_array.ensures.back c.value.ensures.back

pub returns-in_ok-to_buf-in-None-clause-back : goal.returns-in_ok-to_buf-in-None-clause-back
returns-in_ok-to_buf-in-None-clause-back c = kept_more _ _ _ c.in_array.ensures.back c.value.ensures.back
