use Rattle.std.proofs.Common.{length, ◌+◌}
use Rattle.jsonptr.specs.Pointers.{tokens_of}
use Rattle.json_patch_text.proofs.Kept.{kept_more}
use Rattle.json_patch_text.proofs.Nested.{nested_with}
use Rattle.json_patch_text.specs.Drafts.{draft_text}
use Rattle.json_text.specs.Checked.{text_in}
use Rattle.json_lexemes.specs.Skipped.{nesting}
use Rattle.json_patch_text.proofs.Undone.{replaced_stood}
use Rattle.json_text.proofs.Deeper.{replaced_nests}
use Rattle.json_patch_text.proofs.step.replaced.Goals as goal

pub returns-then-branch-clause-depth : goal.returns-then-branch-clause-depth
returns-then-branch-clause-depth c =
    nested_with c.levels_with.result c.args.levels (length (tokens_of c.args.path) + nesting (text_in c.args.value)) (draft_text c.args.draft.now) (draft_text c.replace.new.self) c.levels_with.ensures
    (replaced_nests (draft_text c.args.draft.now) (text_in c.args.value) (draft_text c.replace.new.self) (tokens_of c.args.path) (rw (c.in_ok-displaced.ensures.same, c.if-branch.true) at c.in_ok-replace.ensures.replaced))

pub returns-then-branch-clause-logs : goal.returns-then-branch-clause-logs
returns-then-branch-clause-logs c =
    let (j, shallow) = c.requires.shallow in
    let (v, at) = replaced_stood (draft_text c.args.draft.now) (text_in c.args.value) (draft_text c.replace.new.self) (tokens_of c.args.path) j shallow.0 (rw (c.in_ok-displaced.ensures.same, c.if-branch.true) at c.in_ok-replace.ensures.replaced) in
    c.in_ok-displaced.ensures.logs j v shallow.0 at

pub returns-in_err-replace-clause-back : goal.returns-in_err-replace-clause-back
returns-in_err-replace-clause-back c = kept_more _ _ _ c.displaced.ensures.back c.replace.ensures.back

pub returns-then-branch-clause-back : goal.returns-then-branch-clause-back
returns-then-branch-clause-back c = kept_more _ _ _ c.displaced.ensures.back c.replace.ensures.back

pub returns-else-branch-clause-back : goal.returns-else-branch-clause-back
returns-else-branch-clause-back c = kept_more _ _ _ c.displaced.ensures.back c.replace.ensures.back
