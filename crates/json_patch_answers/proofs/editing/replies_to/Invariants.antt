use Rattle.std.proofs.Common.{take}
use Rattle.serde_json.specs.View.{items_view}
use Rattle.json_patch.specs.Document.{AreDocuments}
use Rattle.json_patch_editor.specs.Shown.{versions}
use Rattle.json_patch_answers.specs.CommandList.{commands_of, HasReplied}
use Rattle.json_patch_answers.proofs.editing.replies_to.Given as goal

abbrev pub invariant-loop-command : goal.invariant-loop-command
invariant-loop-command l = record {
  replied : HasReplied (versions l.fn.editor) (commands_of (take l.command-index l.commands.items)) l.replies.items (versions l.editor);
  documents : AreDocuments (items_view l.replies.items);
}
