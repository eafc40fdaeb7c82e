use Rattle.json_patch_text.proofs.Kept.{kept_more}
use Rattle.std.proofs.Common.{length, ◌+◌}
use Rattle.jsonptr.specs.Pointers.{tokens_of}
use Rattle.json_patch_text.proofs.Nested.{nested_with}
use Rattle.json_patch_text.specs.Drafts.{draft_text}
use Rattle.json_text.specs.Checked.{text_in}
use Rattle.json_lexemes.specs.Skipped.{nesting}
use Rattle.json_text.proofs.Deeper.{added_nests}
use Rattle.json_patch_text.proofs.step.added.Goals as goal

pub returns-then-branch-clause-depth : goal.returns-then-branch-clause-depth
returns-then-branch-clause-depth c =
    nested_with c.levels_with.result c.args.levels (length (tokens_of c.args.path) + nesting (text_in c.args.value)) (draft_text c.args.draft.now) (draft_text c.add.new.self) c.levels_with.ensures
    (added_nests (draft_text c.args.draft.now) (text_in c.args.value) (draft_text c.add.new.self) (tokens_of c.args.path) (rw (c.in_ok-added.ensures.same, c.if-branch.true) at c.in_ok-add.ensures.added))

pub returns-in_err-add-clause-back : goal.returns-in_err-add-clause-back
returns-in_err-add-clause-back c = kept_more _ _ _ c.added.ensures.back c.add.ensures.back

pub returns-then-branch-clause-back : goal.returns-then-branch-clause-back
returns-then-branch-clause-back c = kept_more _ _ _ c.added.ensures.back c.add.ensures.back

pub returns-else-branch-clause-back : goal.returns-else-branch-clause-back
returns-else-branch-clause-back c = kept_more _ _ _ c.added.ensures.back c.add.ensures.back
