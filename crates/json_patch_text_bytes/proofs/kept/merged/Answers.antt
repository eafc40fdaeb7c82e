use Rattle.std.proofs.Common.{refl}
use Rattle.json_patch_text_bytes.proofs.Faults.{is_merged_over}
use Rattle.json_patch_text_bytes.proofs.KeptFaults.{merged_in}
use Rattle.json_patch_text_bytes.proofs.kept.merged.Goals as goal

pub returns-in-Ok-merge-clause-text : goal.returns-in-Ok-merge-clause-text
returns-in-Ok-merge-clause-text c =
    let made = c.in-Ok-merge.ensures in let k = c.args.kept.now in
    merged_in k.limits k.text c.args.patch.now c.in-Ok.text.now c.merge.new.self.text c.in-Ok.ensures.cases.0 c.limits.ensures.readable (rw made.limits at made.readable)
    made.merged made.already made.kept made.small

pub returns-in-Err-TooLong-clause-failure : goal.returns-in-Err-TooLong-clause-failure
returns-in-Err-TooLong-clause-failure c =
    let json = c.limits.ensures.readable in let k = c.args.kept.now in
    is_merged_over k.limits k.text c.args.patch.now k.text c.in-Ok.text.now refl c.in-Ok.ensures.cases.0 json.0 json.2
    (rw c.in-Err-TooLong.field-0-is at c.in-Err-TooLong.ensures.fault)
