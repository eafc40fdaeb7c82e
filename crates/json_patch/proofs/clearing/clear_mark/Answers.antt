use Rattle.json_patch.proofs.Common.{Ok, Err, Refused, null, arith, refl, view, tokens_of}
use Rattle.json_patch.proofs.MarkedCounts.{clear_counts}
use Rattle.json_patch.proofs.MarkedEdits.{exchange_unseen}
use Rattle.json_patch_edit.specs.declared.edits.Edit.TheVariants.{Clear}
use Rattle.json_patch.proofs.clearing.clear_mark.Goals as goal

pub returns-in-Ok-clause-cleared : goal.returns-in-Ok-clause-cleared
returns-in-Ok-clause-cleared c = exchange_unseen (Ok c.in-Ok._found) Clear null (view c.args.doc.now) (view c.make.new.doc) (view c.make.new.value) (tokens_of c.args.place) tt c.requires.marked c.in-Ok.ensures.makes

pub returns-in-Ok-clause-fewer : goal.returns-in-Ok-clause-fewer
returns-in-Ok-clause-fewer c = clear_counts null (view c.args.doc.now) (view c.make.new.doc) (tokens_of c.args.place) c.requires.marked.0 c.in-Ok.ensures.makes.0

pub returns-in-Ok-clause-finds : goal.returns-in-Ok-clause-finds
returns-in-Ok-clause-finds c = rw c.in-Ok.ensures.makes.0 refl

pub returns-in-Err-Refused-clause-cleared : goal.returns-in-Err-Refused-clause-cleared
returns-in-Err-Refused-clause-cleared c = exchange_unseen (Err (Refused _)) Clear _ (view c.args.doc.now) (view c.make.new.doc) (view c.make.new.value) (tokens_of c.args.place) tt c.requires.marked (rw c.in-Err-Refused.field-0-is at c.in-Err-Refused.ensures.makes)

pub returns-in-Err-Refused-clause-fewer : goal.returns-in-Err-Refused-clause-fewer
returns-in-Err-Refused-clause-fewer c = rw c.in-Err-Refused.ensures.makes.1 (omega arith)

pub returns-in-Err-Refused-clause-finds : goal.returns-in-Err-Refused-clause-finds
returns-in-Err-Refused-clause-finds c = rw ((rw c.in-Err-Refused.field-0-is at c.in-Err-Refused.ensures.makes).0.1) refl
