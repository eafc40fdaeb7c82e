use Rattle.std.proofs.Common.{subst}
use Rattle.serde_json.specs.View.{view}
use Rattle.json_patch.specs.Operation.{operations, operations_of}
use Rattle.json_patch.specs.Run.{Accepts}
use Rattle.json_patch_editor.specs.Shown.{versions}
use Rattle.json_patch_examples.proofs.Rounds.{rounds}
use Rattle.json_patch_examples.proofs.callers.back_and_on.Goals as goal

pub returns : goal.returns
returns c =
    rounds c.one_more_reply.ensures (view c.args.document) (operations_of c.args.changes.now)
    (versions c.open-editor.result) (versions c.apply.new.self) (versions c.undo.new.self) (versions c.undo-2.new.self) (versions c.redo.new.self)
    c.open-editor.ensures
    (subst (λ os. Accepts (versions c.open-editor.result).here (operations os) (versions c.apply.new.self).here) c.as_slice.ensures c.in_ok-apply.ensures.accepted)
    c.in_ok-apply.ensures.applied c.in_ok-undo.ensures.undone c.in_ok-undo-2.ensures.undone c.in_ok-redo.ensures.redone
