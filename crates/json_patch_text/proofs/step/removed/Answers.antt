use Rattle.jsonptr.specs.Pointers.{tokens_of}
use Rattle.json_patch_text.proofs.Kept.{kept_more}
use Rattle.json_patch_text.proofs.Nested.{removed_nested}
use Rattle.json_patch_text.proofs.Undone.{removed_stood}
use Rattle.json_patch_text.specs.Drafts.{draft_text}
use Rattle.json_patch_text.proofs.step.removed.Goals as goal

pub returns-then-branch-clause-logs : goal.returns-then-branch-clause-logs
returns-then-branch-clause-logs c =
    let (j, shallow) = c.requires.shallow in
    let (v, at) = removed_stood (draft_text c.args.draft.now) (draft_text c.remove.new.self) (tokens_of c.args.path) j shallow.0 (rw (c.in_ok-displaced.ensures.same, c.if-branch.true) at c.in_ok-remove.ensures.removed) in
    c.in_ok-displaced.ensures.logs j v shallow.0 at

pub returns-then-branch-clause-depth : goal.returns-then-branch-clause-depth
returns-then-branch-clause-depth c = removed_nested c.args.levels (draft_text c.args.draft.now) (draft_text c.remove.new.self) (tokens_of c.args.path) (rw (c.in_ok-displaced.ensures.same, c.if-branch.true) at c.in_ok-remove.ensures.removed)

pub returns-in_err-remove-clause-back : goal.returns-in_err-remove-clause-back
returns-in_err-remove-clause-back c = kept_more _ _ _ c.displaced.ensures.back c.remove.ensures.back

pub returns-then-branch-clause-back : goal.returns-then-branch-clause-back
returns-then-branch-clause-back c = kept_more _ _ _ c.displaced.ensures.back c.remove.ensures.back

pub returns-else-branch-clause-back : goal.returns-else-branch-clause-back
returns-else-branch-clause-back c = kept_more _ _ _ c.displaced.ensures.back c.remove.ensures.back
