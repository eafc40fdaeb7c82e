use Rattle.std.specs.Prelude.{string_bytes}
use Rattle.std.proofs.lemmas.Str.{IsUtf8-string_bytes}
use Rattle.json_patch_text_bytes.proofs.Faults.{is_merged, is_merged_over}
use Rattle.json_patch_text_bytes.proofs.calls.merged.Goals as goal

pub returns-in-Some-clause-text : goal.returns-in-Some-clause-text
returns-in-Some-clause-text c =
    let two = c.in_ok-text.ensures in let made = c.in-Ok.ensures in let some = c.in-Some.is in
    is_merged c.args.limits c.args.document.now c.args.patch.now c.in_ok-text.text.now c.in_ok-text.second.now (string_bytes c.in-Some.new) two.document.0 two.second.0 two.document.1
    two.document.2 (IsUtf8-string_bytes c.in-Some.new) two.second.2 (rw some at made.merged) (rw some at made.unchanged) (rw some at made.depth) (rw some at made.kept) (rw some at made.small)

pub returns-in-None-clause-failure : goal.returns-in-None-clause-failure
returns-in-None-clause-failure c =
    let two = c.in_ok-text.ensures in let none = c.in-None.is in
    is_merged_over c.args.limits c.args.document.now c.args.patch.now c.in_ok-text.text.now c.in_ok-text.second.now two.document.0 two.second.0 two.document.1 two.document.2
    (rw none at c.in-Ok.ensures.over)
