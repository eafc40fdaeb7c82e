use Rattle.json_patch.proofs.Common.{view}
use Rattle.json_patch.proofs.LoggedEdits.{edit_comes, edit_keeps, edit_logs, edit_value, logs_as}
use Rattle.json_patch.proofs.UnmarkedLogs.{unmarked_logged}
use Rattle.json_patch.proofs.log.Log.change.Goals as goal

pub log_edit-requires-clause-unmarked : goal.log_edit-requires-clause-unmarked
log_edit-requires-clause-unmarked c = unmarked_logged c.args.step.edit (view c.args.value) _ c.requires.value

pub returns-clause-comes : goal.returns-clause-comes
returns-clause-comes c = edit_comes _ c.args.step.edit c.args.step.keep c.args.step.path _ _ _ _ (view c.args.value) _ c.requires.value c.requires.marked c.log_edit.ensures.logged c.log_edit.ensures.refused c.log_edit.ensures.unchanged

pub returns-clause-marked : goal.returns-clause-marked
returns-clause-marked c = edit_value _ c.args.step.edit c.args.step.keep c.args.step.path _ _ _ _ (view c.args.value) _ c.requires.value c.requires.marked c.log_edit.ensures.logged c.log_edit.ensures.refused c.log_edit.ensures.unchanged

pub returns-clause-logs : goal.returns-clause-logs
returns-clause-logs c = logs_as _ c.args.step.keep _ _ _ _ (edit_logs _ c.args.step.edit c.args.step.keep c.args.step.path _ _ _ _ (view c.args.value) _ c.requires.value c.requires.marked c.log_edit.ensures.logged c.log_edit.ensures.refused c.log_edit.ensures.unchanged c.log_edit.ensures.grows)

pub returns-clause-keeps : goal.returns-clause-keeps
returns-clause-keeps c = edit_keeps _ c.args.step.edit c.args.step.keep c.args.step.path _ _ _ _ (view c.args.value) _ c.requires.value c.requires.marked c.log_edit.ensures.logged c.log_edit.ensures.refused c.log_edit.ensures.unchanged
