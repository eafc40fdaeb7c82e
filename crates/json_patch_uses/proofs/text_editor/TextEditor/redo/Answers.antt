use Rattle.std.proofs.Common.{◌≤◌, refl, subst}
use Rattle.json_diff_text.specs.Differences.{most_levels}
use Rattle.json_patch_limits.specs.declared.limits.Limits.{Limits}
use Rattle.json_patch_uses.proofs.TextTrails.{redo_answered, redo_held_up, redone}
use Rattle.json_patch_uses.specs.TextEditors.{held}
use Rattle.json_patch_uses.proofs.text_editor.TextEditor.redo.Goals as goal

pub returns-clause-redone : goal.returns-clause-redone
returns-clause-redone c = let a = c.led_alike.ensures in redone a.turned a.from_same a.to_same a.one_end c.step.result (held c.args.self.now) _ refl c.step.ensures.steps

pub returns-clause-answer : goal.returns-clause-answer
returns-clause-answer c = redo_answered c.step.result (held c.args.self.now) _ _ _ c.step.ensures.steps

pub returns-clause-fault : goal.returns-clause-fault
returns-clause-fault c = let a = c.led_alike.ensures in redo_held_up a.from_same a.unrefused a.read (held c.args.self.now)
    (subst (λ (l : Limits). l.depth ≤ most_levels) c.limits.ensures.limits c.limits.ensures.bounded) c.limits.ensures.readable c.step.result _ _ _ c.step.ensures.steps
