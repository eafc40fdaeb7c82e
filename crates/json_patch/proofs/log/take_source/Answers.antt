use Rattle.json_patch.proofs.Common.{view, tokens_of}
use Rattle.json_patch_edit.specs.Marked.{seen}
use Rattle.json_patch_edit.proofs.Exchanges.{fitting_more}
use Rattle.json_patch.proofs.LoggedEdits.{take_refused}
use Rattle.json_patch_laws.proofs.Parents.{move_inside, move_nowhere, not_inside}
use Rattle.json_patch.proofs.log.take_source.Goals as goal

pub returns-then-is_inside-clause-refused : goal.returns-then-is_inside-clause-refused
returns-then-is_inside-clause-refused c = move_inside (seen (view c.args.doc.now)) (tokens_of c.args.from) (tokens_of c.args.path) (c.is_inside.ensures.0 c.if-is_inside.true)

pub returns-in-Ok-clause-fits : goal.returns-in-Ok-clause-fits
returns-in-Ok-clause-fits c = fitting_more _ _ _ c.make.ensures.grows c.in_ok-make_room.ensures.fits

pub returns-in-Err-Refused-clause-refused : goal.returns-in-Err-Refused-clause-refused
returns-in-Err-Refused-clause-refused c =
    move_nowhere (seen (view c.args.doc.now)) (tokens_of c.args.from) (tokens_of c.args.path) (not_inside (tokens_of c.args.from) (tokens_of c.args.path) (rw c.if-is_inside.false at c.is_inside.ensures))
    (take_refused _ _ _ _ _ (tokens_of c.args.from) c.requires c.mark-value.ensures (rw c.in-Err-Refused.field-0-is at c.in-Err-Refused.ensures.makes))
