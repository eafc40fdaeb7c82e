use Rattle.std.proofs.Common.{◌≡◌, [], ◌∷◌, ◌++◌, add-one, rules}
use Rattle.json_patch_editor.specs.Shown.{versions}
use Rattle.json_patch_answers.proofs.Commands.{documents_more, one_replied, whole_at}
use Rattle.json_patch_answers.proofs.editing.replies_to.Goals as goal

pub reply_to-requires : goal.reply_to-requires
reply_to-requires c =
    let e = c.deref-command-items.ensures.value in
    whole_at c.args.commands.now.items c.loop-command.command-index c.command-item.result
    (rw e at c.loop-command-test.true) (rw e at c.command-item.is) c.requires

pub loop-command-preserved : goal.loop-command-preserved
loop-command-preserved c =
    let e = c.deref-command-items.ensures.value in
    let pushed : c.push.new.self.items ≡ c.loop-command.replies.items ++ c.in_ok-reply.reply ∷ [] = search rules in
    record {
      replied = rw (pushed, add-one) (one_replied c.one_more_reply.ensures (versions c.args.editor.now) (versions c.loop-command.editor) (versions c.reply_to.new.editor)
          c.args.commands.now.items c.loop-command.command-index c.command-item.result c.loop-command.replies.items c.in_ok-reply.reply
          (rw e at c.loop-command-test.true) (rw e at c.command-item.is) c.loop-command.invariant.replied c.in_ok-reply.ensures.replied);
      documents = rw pushed (documents_more c.loop-command.replies.items c.in_ok-reply.reply c.loop-command.invariant.documents c.in_ok-reply.ensures.document);
    }
