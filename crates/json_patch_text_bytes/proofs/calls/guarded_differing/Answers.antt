use Rattle.std.specs.Prelude.{string_bytes}
use Rattle.json_patch_text_bytes.proofs.Faults.{is_guarded_difference}
use Rattle.json_patch_text_bytes.proofs.calls.guarded_differing.Goals as goal

pub returns-in-Ok-clause-text : goal.returns-in-Ok-clause-text
returns-in-Ok-clause-text c =
    let two = c.in_ok-first.ensures in let made = c.in-Ok.ensures in
    is_guarded_difference c.args.limits c.args.from.now c.args.to.now c.in_ok-first.first.now c.in_ok-first.second.now (string_bytes c.in-Ok.patch) two.document.0 two.second.0
    two.document.1 two.document.2 two.second.1 two.second.2 made.leads made.guarded made.refused made.nothing made.few
