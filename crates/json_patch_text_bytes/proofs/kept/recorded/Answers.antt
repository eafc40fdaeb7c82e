use Rattle.json_patch_text_bytes.proofs.KeptFaults.{kept_record_failure, recorded_in}
use Rattle.json_patch_text_bytes.proofs.kept.recorded.Goals as goal

pub returns-in-Ok-patch_recorded-clause-text : goal.returns-in-Ok-patch_recorded-clause-text
returns-in-Ok-patch_recorded-clause-text c =
    let made = c.in-Ok-patch_recorded.ensures in let k = c.args.kept.now in let e = c.patch_recorded.new.self in
    recorded_in k.limits k.text c.args.patch.now c.in-Ok.flat.now e.text e.last c.in-Ok.ensures.text.0 c.limits.ensures.readable.0 made.readable.0 c.requires
    made.accepted made.kept made.before made.recorded made.leads_back made.utf8 made.within made.bounded made.undo_bounded

pub returns-in-Err-patch_recorded-clause-failure : goal.returns-in-Err-patch_recorded-clause-failure
returns-in-Err-patch_recorded-clause-failure c =
    let flat = c.in-Ok.ensures.text in let failed = c.in-Err-patch_recorded in let k = c.args.kept.now in
    kept_record_failure c.args.most k.limits k.text c.args.patch.now c.in-Ok.flat.now failed.fault c.of_run.result c.named-in-Err-patch_recorded.result flat.0 c.in-Ok.ensures.few c.requires flat.1 flat.2
    c.limits.ensures.readable failed.ensures.fault c.of_run.ensures c.named-in-Err-patch_recorded.ensures
