use Rattle.std.proofs.Common.{◌≡◌, ◌∙◌, if◌then◌else◌, sym}
use Rattle.std.proofs.lemmas.Option.{none-some}
use Rattle.jsonptr.specs.Pointers.{tokens_of}
use Rattle.json_patch_text.specs.Drafts.{draft_text}
use Rattle.json_patch_text.specs.declared.undo.Undo.TheVariants as undo
use Rattle.json_patch_text.proofs.Logged.{chosen_else, chosen_then, logs_put}
use Rattle.json_patch_text.proofs.Made.{nowhere}
use Rattle.json_patch_text.proofs.log.Log.displaced.Goals.{then-exchanged, else-exchanged}
use Rattle.json_patch_text.proofs.log.Log.displaced.Goals as goal

pub returns-in_default-clause-logs : goal.returns-in_default-clause-logs
returns-in_default-clause-logs c i v said at = absurd (none-some v (sym (nowhere (draft_text c.args.draft.now) (tokens_of c.args.path) i (rw c.in_default.is at c.in_ok-value.ensures.value) said) ∙ at))

pub returns-clause-logs : goal.returns-clause-logs
returns-clause-logs c =
    let is : c.if-exchanged.undo ≡ (if c.args.exchanged then undo.Replace c.in_ok-place.place c.in-Some.value else undo.Add c.in_ok-place.place c.in-Some.value) =
    elim c.if-exchanged.branch [
      | then-exchanged w ↦ chosen_then c.args.exchanged c.if-exchanged.undo (undo.Replace c.in_ok-place.place c.in-Some.value) (undo.Add c.in_ok-place.place c.in-Some.value) w.if-exchanged.true w.undo-is
      | else-exchanged w ↦ chosen_else c.args.exchanged c.if-exchanged.undo (undo.Replace c.in_ok-place.place c.in-Some.value) (undo.Add c.in_ok-place.place c.in-Some.value) w.if-exchanged.false w.undo-is
    ] in
    logs_put c.args.exchanged (draft_text c.args.draft.now) (tokens_of c.args.path) c.in_ok-place.place c.args.self.now c.push.new.self c.push.result c.in-Some.value c.if-exchanged.undo c.in_ok-place.ensures is (rw c.in-Some.is at c.in_ok-value.ensures.value) c.push.ensures.kept c.push.ensures.logged
