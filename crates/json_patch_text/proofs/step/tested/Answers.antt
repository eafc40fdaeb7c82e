use Rattle.std.proofs.Common.{◌≡◌, true, false}
use Rattle.std.specs.String.{string_bytes}
use Rattle.jsonptr.specs.Pointers.{tokens_of}
use Rattle.json_patch_text.proofs.Made.{answered, test_none, test_comes, test_stops}
use Rattle.json_patch_text.specs.Drafts.{draft_text}
use Rattle.json_text.specs.Checked.{text_in}
use Rattle.json_patch_text.proofs.step.tested.Goals as goal

pub returns-in_default-clause-stopped : goal.returns-in_default-clause-stopped
returns-in_default-clause-stopped c i w said t = test_none (draft_text c.args.draft.now) (tokens_of c.args.path) i w (rw c.in_default.is at c.in_ok-here.ensures.value) said

pub returns-then-branch-clause-same : goal.returns-then-branch-clause-same
returns-then-branch-clause-same c i w said t =
    let first : c.as_str.result.now ≡ string_bytes c.in-Some.here = cc in
    let second : c.as_str-2.result.now ≡ text_in c.args.value = cc in
    test_comes (draft_text c.args.draft.now) (string_bytes c.in-Some.here) (text_in c.args.value) (tokens_of c.args.path) i w (rw c.in-Some.is at c.in_ok-here.ensures.value) said t
    (rw (first, second) at (answered c.as_str.result.now c.as_str-2.result.now c.is_same.result c.in_ok-is_same.field-0 true c.in_ok-is_same.was c.if-branch.true c.is_same.ensures))

pub returns-clause-stopped : goal.returns-clause-stopped
returns-clause-stopped c i w said t =
    let first : c.as_str.result.now ≡ string_bytes c.in-Some.here = cc in
    let second : c.as_str-2.result.now ≡ text_in c.args.value = cc in
    test_stops (draft_text c.args.draft.now) (string_bytes c.in-Some.here) (text_in c.args.value) (tokens_of c.args.path) i w (rw c.in-Some.is at c.in_ok-here.ensures.value) said t
    (rw (first, second) at (answered c.as_str.result.now c.as_str-2.result.now c.is_same.result c.in_ok-is_same.field-0 false c.in_ok-is_same.was c.if-branch.false c.is_same.ensures))
