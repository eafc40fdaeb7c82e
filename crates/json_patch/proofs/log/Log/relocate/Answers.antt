use Rattle.json_patch.proofs.Common.{Ok, Err, arith, refl, view}
use Rattle.json_patch_edit.proofs.Exchanges.{fitting_more}
use Rattle.json_patch.proofs.LoggedEdits.{goes_back, logs_as, logs_earlier, logs_none, move_comes, move_keeps}
use Rattle.json_patch.proofs.LoggedEdits.{move_logs, move_value, source_value}
use Rattle.json_patch.proofs.log.Log.relocate.Goals as goal

pub returns-in_err-value-clause-logs : goal.returns-in_err-value-clause-logs
returns-in_err-value-clause-logs c = logs_as c.from_residual.result c.args.keep _ _ _ _ (logs_none _ _ _ _ c.in_err-value.ensures.grows refl c.in_err-value.ensures.unchanged)

pub log_edit-requires-clause-marked : goal.log_edit-requires-clause-marked
log_edit-requires-clause-marked c = source_value _ _ (view c.in_ok-value.value) c.args.from c.args.path c.requires.marked c.in_ok-value.ensures.taken

pub put_back-requires-clause-marked : goal.put_back-requires-clause-marked
put_back-requires-clause-marked c = (move_value _ _ (view c.in_ok-value.value) c.args.from c.args.path c.requires.marked c.in_ok-value.ensures.taken (Err c.in-Err.fault) c.args.keep (record { names = c.take_source.new.names; changes = c.args.self.now.changes }) c.log_edit.new.self (view c.log_edit.new.doc) (view c.log_edit.new.value) tt c.in-Err.ensures.refused c.in-Err.ensures.unchanged).0

pub put_back-requires-clause-fits : goal.put_back-requires-clause-fits
put_back-requires-clause-fits c = fitting_more _ _ _ c.log_edit.ensures.grows c.in_ok-value.ensures.fits

pub put_back-requires-clause-back : goal.put_back-requires-clause-back
put_back-requires-clause-back c = (_, goes_back _ _ (view c.in_ok-value.value) c.args.from c.args.path c.requires.marked c.in_ok-value.ensures.taken _ _ c.in-Err.ensures.unchanged.0 c.in-Err.ensures.unchanged.1)

pub returns-in-Err-clause-comes : goal.returns-in-Err-clause-comes
returns-in-Err-clause-comes c = move_comes _ _ (view c.in_ok-value.value) c.args.from c.args.path c.requires.marked c.in_ok-value.ensures.taken (Err c.in-Err.fault) c.args.keep (record { names = c.take_source.new.names; changes = c.args.self.now.changes }) c.log_edit.new.self (view c.log_edit.new.doc) (view c.log_edit.new.value) tt c.in-Err.ensures.refused c.in-Err.ensures.unchanged

pub returns-in-Err-clause-marked : goal.returns-in-Err-clause-marked
returns-in-Err-clause-marked c = rw (c.put_back.ensures.back _ (goes_back _ _ (view c.in_ok-value.value) c.args.from c.args.path c.requires.marked c.in_ok-value.ensures.taken _ _ c.in-Err.ensures.unchanged.0 c.in-Err.ensures.unchanged.1)) c.requires.marked

pub returns-in-Err-clause-unchanged : goal.returns-in-Err-clause-unchanged
returns-in-Err-clause-unchanged c = c.put_back.ensures.back _ (goes_back _ _ (view c.in_ok-value.value) c.args.from c.args.path c.requires.marked c.in_ok-value.ensures.taken _ _ c.in-Err.ensures.unchanged.0 c.in-Err.ensures.unchanged.1)

pub returns-in-Err-clause-logs : goal.returns-in-Err-clause-logs
returns-in-Err-clause-logs c = logs_none _ _ _ _ (omega (arith, c.take_source.ensures.grows, c.log_edit.ensures.grows, c.put_back.ensures.grows)) c.in-Err.ensures.unchanged.2 (c.put_back.ensures.back _ (goes_back _ _ (view c.in_ok-value.value) c.args.from c.args.path c.requires.marked c.in_ok-value.ensures.taken _ _ c.in-Err.ensures.unchanged.0 c.in-Err.ensures.unchanged.1))

pub returns-clause-comes : goal.returns-clause-comes
returns-clause-comes c = move_comes _ _ (view c.in_ok-value.value) c.args.from c.args.path c.requires.marked c.in_ok-value.ensures.taken (Ok c.in_default.field-0) c.args.keep (record { names = c.take_source.new.names; changes = c.args.self.now.changes }) c.log_edit.new.self (view c.log_edit.new.doc) (view c.log_edit.new.value) c.in_default.ensures.logged tt tt

pub returns-clause-marked : goal.returns-clause-marked
returns-clause-marked c = move_value _ _ (view c.in_ok-value.value) c.args.from c.args.path c.requires.marked c.in_ok-value.ensures.taken (Ok c.in_default.field-0) c.args.keep (record { names = c.take_source.new.names; changes = c.args.self.now.changes }) c.log_edit.new.self (view c.log_edit.new.doc) (view c.log_edit.new.value) c.in_default.ensures.logged tt tt

pub returns-clause-logs : goal.returns-clause-logs
returns-clause-logs c = logs_as (Ok c.in_default.field-0) c.args.keep _ _ _ _ (logs_earlier _ (record { names = c.take_source.new.names; changes = c.args.self.now.changes }) _ _ _ c.take_source.ensures.grows refl (move_logs _ _ (view c.in_ok-value.value) c.args.from c.args.path c.requires.marked c.in_ok-value.ensures.taken c.args.keep (record { names = c.take_source.new.names; changes = c.args.self.now.changes }) c.log_edit.new.self (view c.log_edit.new.doc) c.in_default.ensures.logged.0 c.in_default.ensures.logged.1 c.in_default.ensures.logged.2 c.log_edit.ensures.grows (fitting_more _ _ _ c.log_edit.ensures.grows c.in_ok-value.ensures.fits)))

pub returns-clause-keeps : goal.returns-clause-keeps
returns-clause-keeps c = move_keeps _ _ (view c.in_ok-value.value) c.args.from c.args.path c.requires.marked c.in_ok-value.ensures.taken c.args.keep (record { names = c.take_source.new.names; changes = c.args.self.now.changes }) c.log_edit.new.self (view c.log_edit.new.doc) c.in_default.ensures.logged.0 c.in_default.ensures.logged.1 c.in_default.ensures.logged.2
