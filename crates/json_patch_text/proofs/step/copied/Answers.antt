use Rattle.json_patch_text.proofs.Kept.{kept_more}
use Rattle.std.specs.String.{string_bytes}
use Rattle.jsonptr.specs.Pointers.{tokens_of}
use Rattle.json_patch_text.proofs.Made.{copied_stopped, copied_tree, copy_none, part_known}
use Rattle.json_patch_text.specs.Drafts.{draft_text}
use Rattle.json_patch_text.proofs.step.copied.Goals as goal

pub returns-in_default-clause-stopped : goal.returns-in_default-clause-stopped
returns-in_default-clause-stopped c i said =
    copy_none (draft_text c.args.draft.now) (tokens_of c.args.from) (tokens_of c.args.path) i (rw c.in_default.is at c.in_ok-copy.ensures.value) said

pub known-value-requires : goal.known-value-requires
known-value-requires c =
    part_known (draft_text c.args.draft.now) (string_bytes c.in-Some.copy) c.as_str.result.now (tokens_of c.args.from) (rw c.in-Some.is at c.in_ok-copy.ensures.value) c.as_str.ensures.value

pub returns-clause-tree : goal.returns-clause-tree
returns-clause-tree c =
    copied_tree (draft_text c.args.draft.now) (string_bytes c.in-Some.copy) (draft_text c.added.new.draft) (tokens_of c.args.from) (tokens_of c.args.path) c.added.result (rw c.in-Some.is at c.in_ok-copy.ensures.value)
    (rw (c.in_ok-copy.ensures.kept, c.known-value.ensures, c.as_str.ensures.value) at c.added.ensures.made)

pub returns-clause-stopped : goal.returns-clause-stopped
returns-clause-stopped c =
    copied_stopped (draft_text c.args.draft.now) (string_bytes c.in-Some.copy) (tokens_of c.args.from) (tokens_of c.args.path) c.added.result (rw c.in-Some.is at c.in_ok-copy.ensures.value)
    (rw c.in_ok-copy.ensures.kept at c.added.ensures.stopped)

pub returns-clause-logs : goal.returns-clause-logs
returns-clause-logs c = rw c.in_ok-copy.ensures.kept at c.added.ensures.logs

pub returns-clause-back : goal.returns-clause-back
returns-clause-back c = kept_more _ _ _ c.value.ensures.back c.added.ensures.back
