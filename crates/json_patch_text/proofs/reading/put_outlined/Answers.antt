use Rattle.std.proofs.Common.{◌∙◌, ap, subst}
use Rattle.serde_json.proofs.Views.{members_view-insert_entry}
use Rattle.serde_json.specs.Data.{put}
use Rattle.serde_json.specs.View.{members_view, view}
use Rattle.json_patch_text.specs.Outline.{HasField, bytes_in}
use Rattle.json_patch_text.proofs.Outlines.{one_put}
use Rattle.json_patch_text.proofs.reading.put_outlined.Goals as goal

pub returns-in_ok-insert : goal.returns-in_ok-insert
returns-in_ok-insert c = λ t j h.
    one_put t c.args.name.now j c.in-Some.text (view c.in_ok-outlined.field-0) (members_view c.args.members.now.entries) (members_view c.insert.new.self.entries)
    (ap members_view c.in_ok-insert.ensures.entries ∙ members_view-insert_entry c.args.members.now.entries c.in_ok-from_str.field-0 c.in_ok-outlined.field-0 ∙ ap (λ n. put n (view c.in_ok-outlined.field-0) (members_view c.args.members.now.entries)) c.in_ok-from_str.ensures.ok)
    c.in_ok-outlined.ensures (subst (λ o. HasField t j c.args.name.now (bytes_in o)) c.in-Some.is h)
