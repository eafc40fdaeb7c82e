use Rattle.std.proofs.Common.{rules}
use Rattle.serde_json.specs.declared.value.Value.{the_lemmas}
use Rattle.json_patch_editor.specs.Shown.{versions}
use Rattle.json_patch_answers.proofs.Commands.{redo_reply, refused_reply, undo_reply}
use Rattle.json_patch_answers.proofs.editing.reply_to.Goals as goal

pub returns-in_ok-refusal-in-Err-Refused-clause-replied :
    goal.returns-in_ok-refusal-in-Err-Refused-clause-replied
returns-in_ok-refusal-in-Err-Refused-clause-replied c =
    refused_reply (versions c.args.editor.now) (versions c.apply.new.self) c.args.command.now c.in-Apply.patch c.as_slice.result.now c.in-Err-Refused.error _
    c.in-Apply.is c.as_slice.ensures (rw c.in-Err-Refused.field-0-is at c.in-Err-Refused.ensures.refused) c.in-Err-Refused.ensures.unchanged c.in_ok-refusal-in-Err-Refused.ensures.written

pub returns-in_ok-undo-in-Undo-clause-replied : goal.returns-in_ok-undo-in-Undo-clause-replied
returns-in_ok-undo-in-Undo-clause-replied c =
    undo_reply (versions c.args.editor.now) (versions c.undo.new.self) c.args.command.now c.in_ok-undo-in-Undo.field-0 _ (search (rules, the_lemmas))
    c.in-Undo.is c.in_ok-undo-in-Undo.ensures.answer c.in_ok-undo-in-Undo.ensures.undone

pub returns-in_ok-redo-in-Redo-clause-replied : goal.returns-in_ok-redo-in-Redo-clause-replied
returns-in_ok-redo-in-Redo-clause-replied c =
    redo_reply (versions c.args.editor.now) (versions c.redo.new.self) c.args.command.now c.in_ok-redo-in-Redo.field-0 _ (search (rules, the_lemmas))
    c.in-Redo.is c.in_ok-redo-in-Redo.ensures.answer c.in_ok-redo-in-Redo.ensures.redone
