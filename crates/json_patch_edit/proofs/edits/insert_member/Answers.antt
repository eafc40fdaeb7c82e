use Rattle.json_patch_edit.proofs.Exchanges.{inserts_over, inserts_new}
use Rattle.json_patch_edit.proofs.edits.insert_member.Goals as goal

pub returns-in-Ok-Some : goal.returns-in-Ok-Some
returns-in-Ok-Some c = record { makes = inserts_over _ _ _ c.args.name _ _ _ c.take.ensures.value c.in-Ok-Some.ensures.entries c.in-Ok-Some.ensures.old c.in-Ok-Some.field-0-is }

pub returns-in-Ok-None : goal.returns-in-Ok-None
returns-in-Ok-None c = record { makes = inserts_new _ _ _ c.args.name _ _ c.take.ensures.value c.in-Ok-None.ensures.entries c.in-Ok-None.ensures.old c.in-Ok-None.field-0-is }
