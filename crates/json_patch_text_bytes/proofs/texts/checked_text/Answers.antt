use Rattle.std.proofs.Common.{◌∙◌}
use Rattle.json_lexemes.proofs.Nests.{accepted}
use Rattle.json_patch_text_bytes.proofs.texts.checked_text.Goals as goal

pub returns-in-Some-clause-text : goal.returns-in-Some-clause-text
returns-in-Some-clause-text c =
    let read = c.in-Ok.ensures.cases in
    let same = c.in-Some.ensures.text ∙ read.0 in
    let said = rw same at (accepted c.in-Some.checked.text.now c.in-Some.checked.read) in
    (same, (read.1, (said.0, said.1.0), rw read.0 at c.in-Some.ensures.depth))
