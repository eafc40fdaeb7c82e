use Rattle.std.proofs.Common.{false, refl}
use Rattle.std.specs.Prelude.{string_bytes}
use Rattle.json_patch_text_bytes.proofs.Faults.{is_difference}
use Rattle.json_patch_text_bytes.proofs.kept.differing.Goals as goal

pub returns-in-Ok-diff_to-clause-text : goal.returns-in-Ok-diff_to-clause-text
returns-in-Ok-diff_to-clause-text c =
    let json = c.limits.ensures.readable in let read = c.in-Ok.ensures.cases in let made = c.in-Ok-diff_to.ensures in let k = c.args.kept.now in
    is_difference false k.limits k.text c.args.to.now k.text c.in-Ok.text.now (string_bytes c.in-Ok-diff_to.patch) refl read.0 json.0 json.2 read.1
    (rw read.0 at made.depth) made.leads (λ off. made.plain) (λ on. cc) made.nothing made.few
