use Rattle.std.specs.Prelude.{string_bytes}
use Rattle.std.proofs.lemmas.Str.{IsUtf8-string_bytes}
use Rattle.json_patch_text_bytes.proofs.Faults.{is_failure, is_patched}
use Rattle.json_patch_text_bytes.proofs.calls.patched.Goals as goal

pub returns-in-Ok-clause-text : goal.returns-in-Ok-clause-text
returns-in-Ok-clause-text c =
    let two = c.in_ok-text.ensures in let made = c.in-Ok in
    is_patched c.args.limits c.args.document.now c.args.patch.now c.in_ok-text.text.now c.in_ok-text.flat.now (string_bytes made.new) two.document.0 two.patch.0 two.document.1
    (IsUtf8-string_bytes made.new) made.ensures.accepted made.ensures.kept made.ensures.within made.ensures.bounded

pub returns-in-Err-clause-failure : goal.returns-in-Err-clause-failure
returns-in-Err-clause-failure c =
    let two = c.in_ok-text.ensures in let failed = c.in-Err in
    is_failure c.args.most c.args.limits c.args.document.now c.args.patch.now c.in_ok-text.text.now c.in_ok-text.flat.now failed.fault c.of_run-failure.result c.told.result
    two.document.0 two.patch.0 two.few c.requires two.patch.1 two.patch.2 failed.ensures.fault c.of_run-failure.ensures c.told.ensures
