use Rattle.json_patch_edit.proofs.Common.{rules, ap, sym, ◌∙◌, Object, the_lemmas}
use Rattle.json_patch_edit.proofs.Exchanges.{exchanges_at_members}
use Rattle.json_patch_edit.proofs.edits.edit_in.Goals as goal

pub returns-in-Object-clause-makes : goal.returns-in-Object-clause-makes
returns-in-Object-clause-makes c = exchanges_at_members _ _ _ _ _ _ c.edit_members.new.members _ _ (c.in-Object.is ∙ ap Object (sym c.in-Object.members-is)) (search (rules, the_lemmas)) c.edit_members.ensures.makes
