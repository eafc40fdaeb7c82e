use Rattle.std.proofs.Common.{rules}
use Rattle.json_lexemes.proofs.Nests.{accepted}
use Rattle.json_text.specs.Checked.{text_in}
use Rattle.json_merge_text.proofs.whole.patch_merged.Goals as goal

pub returns-clause-merged : goal.returns-clause-merged
returns-clause-merged c =
    let (i, here) = accepted c.args.text.text.now c.args.text.read in
    let (p, there) = c.in_ok-patch.ensures.shallow in
    (i, p, here.0, there.0, (rw c.in_ok-patch.ensures.text at (c.in_ok-merged.ensures.changed i p here)) there)

pub returns-in_err-patch-clause-fault : goal.returns-in_err-patch-clause-fault
returns-in_err-patch-clause-fault c = let fault = c.in_err-patch.ensures.fault (text_in c.args.text) in search (rules, fault)
