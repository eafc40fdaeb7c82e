use Rattle.json_patch.proofs.Common.{Ok, Err, refl, view, tokens_of}
use Rattle.json_patch_edit.proofs.Exchanges.{unescaped_fit}
use Rattle.json_patch.proofs.LoggedEdits.{lasting_comes, lasting_tells, lasting_value, logs_none}
use Rattle.json_patch_edit.proofs.Unmarked.{unmarked_whole}
use Rattle.json_patch.proofs.log.Log.change_for_good.Goals as goal

pub make-requires-clause-unmarked : goal.make-requires-clause-unmarked
make-requires-clause-unmarked c = unmarked_whole c.lasting.result _ c.requires.document

pub returns-in-Ok-clause-comes : goal.returns-in-Ok-clause-comes
returns-in-Ok-clause-comes c = lasting_comes (Ok c.in-Ok._found) c.args.edit (tokens_of c.args.path) (view c.args.doc.now) (view c.make.new.doc) (view c.args.value) (view c.make.new.value) c.requires.value c.requires.marked (rw c.lasting.ensures at c.in-Ok.ensures.makes)

pub returns-in-Ok-clause-marked : goal.returns-in-Ok-clause-marked
returns-in-Ok-clause-marked c = lasting_value (Ok c.in-Ok._found) c.args.edit (tokens_of c.args.path) (view c.args.doc.now) (view c.make.new.doc) (view c.args.value) (view c.make.new.value) c.requires.value c.requires.marked (rw c.lasting.ensures at c.in-Ok.ensures.makes)

pub returns-in-Ok-clause-logs : goal.returns-in-Ok-clause-logs
returns-in-Ok-clause-logs c = lasting_tells c.args.edit c.in-Ok._found (tokens_of c.args.path) c.args.self.now (record { names = c.make.new.names; changes = c.args.self.now.changes }) (view c.args.doc.now) (view c.make.new.doc) (view c.args.value) (view c.make.new.value) c.requires.value c.requires.marked (rw c.lasting.ensures at c.in-Ok.ensures.makes) c.in-Ok.ensures.grows refl

pub returns-clause-comes : goal.returns-clause-comes
returns-clause-comes c = lasting_comes (Err c.in-Err.fault) c.args.edit (tokens_of c.args.path) (view c.args.doc.now) (view c.make.new.doc) (view c.args.value) (view c.make.new.value) c.requires.value c.requires.marked (rw c.lasting.ensures at c.in-Err.ensures.makes)

pub returns-clause-logs : goal.returns-clause-logs
returns-clause-logs c = logs_none _ _ _ _ c.in-Err.ensures.grows refl c.in-Err.ensures.makes.1

pub returns-clause-no_memory : goal.returns-clause-no_memory
returns-clause-no_memory c = λ is plain. c.in-Err.ensures.no_memory (rw (c.lasting.ensures, is) tt) (unescaped_fit _ _ plain)
