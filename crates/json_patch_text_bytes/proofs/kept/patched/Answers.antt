use Rattle.std.proofs.Common.{refl}
use Rattle.json_patch_text_bytes.proofs.Faults.{is_patched}
use Rattle.json_patch_text_bytes.proofs.KeptFaults.{kept_patch_failure}
use Rattle.json_patch_text_bytes.proofs.kept.patched.Goals as goal

pub returns-in-Ok-patch-clause-text : goal.returns-in-Ok-patch-clause-text
returns-in-Ok-patch-clause-text c =
    let made = c.in-Ok-patch.ensures in let k = c.args.kept.now in
    is_patched k.limits k.text c.args.patch.now k.text c.in-Ok.flat.now c.patch.new.self.text refl c.in-Ok.ensures.text.0 c.limits.ensures.readable.0 made.readable.0
    made.accepted made.kept made.within made.bounded

pub returns-in-Err-patch-clause-failure : goal.returns-in-Err-patch-clause-failure
returns-in-Err-patch-clause-failure c =
    let flat = c.in-Ok.ensures.text in let failed = c.in-Err-patch in let k = c.args.kept.now in
    kept_patch_failure c.args.most k.limits k.text c.args.patch.now c.in-Ok.flat.now failed.fault c.of_run.result c.named-in-Err-patch.result flat.0 c.in-Ok.ensures.few c.requires flat.1 flat.2
    c.limits.ensures.readable failed.ensures.fault c.of_run.ensures c.named-in-Err-patch.ensures
