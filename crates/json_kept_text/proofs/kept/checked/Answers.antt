use Rattle.json_kept_text.proofs.Sound.{known_readable}
use Rattle.json_kept_text.proofs.kept.checked.Goals as goal

pub returns-in-Some-clause-readable : goal.returns-in-Some-clause-readable
returns-in-Some-clause-readable c =
    known_readable c.args.limits c.args.text.now c.utf8.text (rw c.in-Some.ensures.text at c.in-Some.checked.read) c.in-Some.ensures.depth
