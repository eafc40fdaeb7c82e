use Rattle.json_patch_edit.proofs.Exchanges.{fitting_more}
use Rattle.json_patch.proofs.undoing.undo_one.Goals as goal

-- the value that came out of its place goes back where it was taken from
pub put_back-requires-clause-fits : goal.put_back-requires-clause-fits
put_back-requires-clause-fits c = fitting_more _ _ _ c.make.ensures.grows (rw c.in-Some.is at c.requires.roomy.1)
