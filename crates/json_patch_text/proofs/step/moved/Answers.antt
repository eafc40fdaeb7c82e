use Rattle.json_patch_text.proofs.Kept.{kept_more}
use Rattle.std.proofs.Common.{Ok, Err}
use Rattle.jsonptr.specs.Pointers.{tokens_of}
use Rattle.json_patch_laws.proofs.Parents.{not_inside}
use Rattle.json_patch_text.proofs.Made.{as_stopped, move_inside, move_whole, moved_bytes, moved_stopped, moved_tree}
use Rattle.json_patch_text.proofs.Nested.{moved_nested}
use Rattle.json_patch_text.specs.Drafts.{draft_text}
use Rattle.json_patch_text.specs.declared.fault.StepFault.{StepFault}
use Rattle.json_pieces.specs.Whole.{taken_text}
use Rattle.json_patch_text.proofs.Logged.{logs_moved}
use Rattle.json_patch_text.proofs.Undone.{removed_stood}
use Rattle.json_text.proofs.Readable.{less_says}
use Rattle.json_patch_text.proofs.step.moved.Goals as goal

pub returns-then-is_inside-clause-stopped : goal.returns-then-is_inside-clause-stopped
returns-then-is_inside-clause-stopped c i said = move_inside (tokens_of c.args.from) (tokens_of c.args.path) i (c.is_inside.ensures.0 c.if-is_inside.true)

pub returns-in_default-clause-stopped : goal.returns-in_default-clause-stopped
returns-in_default-clause-stopped c i said =
    let nothing = rw (c.in_ok-displaced.ensures.same, c.in_default.is) at c.in_ok-taken.ensures.removed in
    move_whole (draft_text c.args.draft.now) (tokens_of c.args.from) (tokens_of c.args.path) i (not_inside (tokens_of c.args.from) (tokens_of c.args.path) (rw c.if-is_inside.false at c.is_inside.ensures)) nothing.0 said

pub put-requires-clause-shallow : goal.put-requires-clause-shallow
put-requires-clause-shallow c = less_says (draft_text c.args.draft.now) (draft_text c.take.new.self) (tokens_of c.args.from) (rw (c.in_ok-displaced.ensures.same, c.in-Some.is) at c.in_ok-taken.ensures.removed)

pub put-requires-clause-taken : goal.put-requires-clause-taken
put-requires-clause-taken c = (rw c.in-Some.is at c.in_ok-taken.ensures.taken).0

pub returns-clause-made : goal.returns-clause-made
returns-clause-made c =
    let known = (rw (c.in_ok-displaced.ensures.same, c.in-Some.is) at c.in_ok-taken.ensures.taken).1 in
    let gone = rw (c.in_ok-displaced.ensures.same, c.in-Some.is) at c.in_ok-taken.ensures.removed in
    moved_bytes (draft_text c.args.draft.now) (taken_text c.in-Some.taken) (draft_text c.take.new.self) (draft_text c.put.new.draft) (tokens_of c.args.from) (tokens_of c.args.path) (Ok c.levels_moved.result) known gone c.in_ok-put.ensures.made

pub returns-clause-tree : goal.returns-clause-tree
returns-clause-tree c =
    let known = (rw (c.in_ok-displaced.ensures.same, c.in-Some.is) at c.in_ok-taken.ensures.taken).1 in
    let gone = rw (c.in_ok-displaced.ensures.same, c.in-Some.is) at c.in_ok-taken.ensures.removed in
    moved_tree (draft_text c.args.draft.now) (taken_text c.in-Some.taken) (draft_text c.take.new.self) (draft_text c.put.new.draft) (tokens_of c.args.from) (tokens_of c.args.path) (Ok c.levels_moved.result)
    (not_inside (tokens_of c.args.from) (tokens_of c.args.path) (rw c.if-is_inside.false at c.is_inside.ensures)) known gone c.in_ok-put.ensures.made

pub returns-clause-depth : goal.returns-clause-depth
returns-clause-depth c =
    let known = (rw (c.in_ok-displaced.ensures.same, c.in-Some.is) at c.in_ok-taken.ensures.taken).1 in
    let gone = rw (c.in_ok-displaced.ensures.same, c.in-Some.is) at c.in_ok-taken.ensures.removed in
    moved_nested c.levels_moved.result c.args.levels (draft_text c.args.draft.now) (taken_text c.in-Some.taken) (draft_text c.take.new.self) (draft_text c.put.new.draft) (tokens_of c.args.from) (tokens_of c.args.path) known gone c.in_ok-put.ensures.made c.levels_moved.ensures

pub returns-in_err-put-clause-stopped : goal.returns-in_err-put-clause-stopped
returns-in_err-put-clause-stopped c =
    let known = (rw (c.in_ok-displaced.ensures.same, c.in-Some.is) at c.in_ok-taken.ensures.taken).1 in
    let gone = rw (c.in_ok-displaced.ensures.same, c.in-Some.is) at c.in_ok-taken.ensures.removed in
    as_stopped _ c.from_residual-in_err-put.result c.in_err-put.field-0.0 c.from_residual-in_err-put.ensures.1
    (moved_stopped (draft_text c.args.draft.now) (taken_text c.in-Some.taken) (draft_text c.take.new.self) (tokens_of c.args.from) (tokens_of c.args.path) (Err c.in_err-put.field-0.0)
    (not_inside (tokens_of c.args.from) (tokens_of c.args.path) (rw c.if-is_inside.false at c.is_inside.ensures)) known gone c.in_err-put.ensures.stopped)

pub returns-clause-logs : goal.returns-clause-logs
returns-clause-logs c =
    let (j, shallow) = c.requires.shallow in
    let gone = rw (c.in_ok-displaced.ensures.same, c.in-Some.is) at c.in_ok-taken.ensures.removed in
    let (v, at) = removed_stood (draft_text c.args.draft.now) (draft_text c.take.new.self) (tokens_of c.args.from) j shallow.0 gone in
    logs_moved {E = StepFault} (draft_text c.args.draft.now) (draft_text c.take.new.self) (tokens_of c.args.from) (tokens_of c.args.path) c.args.log.now c.displaced.new.self c.put.new.log (Ok c.levels_moved.result) gone (c.in_ok-displaced.ensures.logs j v shallow.0 at) c.in_ok-put.ensures.logs

pub returns-in_err-taken-clause-back : goal.returns-in_err-taken-clause-back
returns-in_err-taken-clause-back c = kept_more _ _ _ c.displaced.ensures.back c.take.ensures.back

pub returns-in_default-clause-back : goal.returns-in_default-clause-back
returns-in_default-clause-back c = kept_more _ _ _ c.displaced.ensures.back c.take.ensures.back

pub returns-in_err-put-clause-back : goal.returns-in_err-put-clause-back
returns-in_err-put-clause-back c = kept_more _ _ _ (kept_more _ _ _ c.displaced.ensures.back c.take.ensures.back) c.put.ensures.back

pub returns-clause-back : goal.returns-clause-back
returns-clause-back c = kept_more _ _ _ (kept_more _ _ _ c.displaced.ensures.back c.take.ensures.back) c.put.ensures.back
