use Rattle.json_text.proofs.Readable.{readable}
use Rattle.json_text.proofs.checked.CheckedText.known.Goals as goal

pub invariant_of-result : goal.invariant_of-result
invariant_of-result c = record { read = readable c.args.text.now c.requires; known = c.none.ensures c.args.text.now }
