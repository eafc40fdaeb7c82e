use Rattle.std.specs.Prelude.{string_bytes}
use Rattle.std.proofs.lemmas.Str.{IsUtf8-string_bytes}
use Rattle.json_patch_text_bytes.proofs.Faults.{is_record_failure, is_recorded}
use Rattle.json_patch_text_bytes.proofs.calls.recorded.Goals as goal

pub returns-in-Ok-clause-texts : goal.returns-in-Ok-clause-texts
returns-in-Ok-clause-texts c =
    let two = c.in_ok-text.ensures in let made = c.in-Ok.made in let u = c.in-Ok.ensures in
    is_recorded c.args.limits c.args.document.now c.args.patch.now c.in_ok-text.text.now c.in_ok-text.flat.now (string_bytes made.text) (string_bytes made.undo) two.document.0 two.patch.0
    two.document.1 (IsUtf8-string_bytes made.text) (IsUtf8-string_bytes made.undo) c.requires u.accepted u.kept u.recorded u.leads_back u.within u.bounded u.undo_bounded

pub returns-in-Err-clause-failure : goal.returns-in-Err-clause-failure
returns-in-Err-clause-failure c =
    let two = c.in_ok-text.ensures in let failed = c.in-Err in
    is_record_failure c.args.most c.args.limits c.args.document.now c.args.patch.now c.in_ok-text.text.now c.in_ok-text.flat.now failed.fault c.of_run-failure.result c.told.result
    two.document.0 two.patch.0 two.few c.requires two.patch.1 two.patch.2 failed.ensures.fault c.of_run-failure.ensures c.told.ensures
