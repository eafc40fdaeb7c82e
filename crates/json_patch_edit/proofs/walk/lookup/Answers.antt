use Rattle.json_patch_edit.proofs.Common.{ap, ◌∙◌, view, pointee}
use Rattle.json_patch_edit.proofs.Locations.{some_stands, none_stands}
use Rattle.json_patch_edit.proofs.walk.lookup.Goals as goal

pub returns-clause-found : goal.returns-clause-found
returns-clause-found c = some_stands _ _ _ _ (c.find.ensures ∙ ap (pointee (view c.args.document.now)) c.tokens.ensures.value)

pub returns-clause-missing : goal.returns-clause-missing
returns-clause-missing c = none_stands _ _ _ _ (c.find.ensures ∙ ap (pointee (view c.args.document.now)) c.tokens.ensures.value)
