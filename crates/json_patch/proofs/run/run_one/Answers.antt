use Rattle.json_patch.proofs.Common.{◌∙◌, Ok, sym, ap, view}
use Rattle.json_patch.proofs.LoggedEdits.{document_marks, logs_tell}
use Rattle.json_patch.proofs.LoggedRuns.{counted_alone, roomy_alone}
use Rattle.json_patch_edit.proofs.MarkedRuns.{document_seen, document_value}
use Rattle.json_patch.specs.declared.log.Keep.TheVariants.{Neither}
use Rattle.json_patch.proofs.run.run_one.Goals as goal

pub step-requires-clause-marked : goal.step-requires-clause-marked
step-requires-clause-marked c = document_value (view c.args.doc.now) c.requires.document

pub step-requires-clause-document : goal.step-requires-clause-document
step-requires-clause-document c = rw (document_seen (view c.args.doc.now) c.requires.document) c.requires.document

pub returns-in-Err-clause-comes : goal.returns-in-Err-clause-comes
returns-in-Err-clause-comes c = rw (document_seen (view c.args.doc.now) c.requires.document) at c.in-Err.ensures.comes

pub clear_marks-requires-clause-roomy : goal.clear_marks-requires-clause-roomy
clear_marks-requires-clause-roomy c =
    roomy_alone c.new-log.result c.step.new.self (view c.args.doc.now) (view c.step.new.doc) c.deref.result.now c.new-log.ensures (sym c.deref.ensures.value)
    (logs_tell (Ok c.in_default.field-0) Neither c.new-log.result c.step.new.self (view c.args.doc.now) (view c.step.new.doc) c.in_default.ensures.logs)

pub clear_marks-requires-clause-counts : goal.clear_marks-requires-clause-counts
clear_marks-requires-clause-counts c =
    counted_alone c.new-log.result c.step.new.self (view c.args.doc.now) (view c.step.new.doc) c.deref.result.now c.new-log.ensures (sym c.deref.ensures.value)
    (logs_tell (Ok c.in_default.field-0) Neither c.new-log.result c.step.new.self (view c.args.doc.now) (view c.step.new.doc) c.in_default.ensures.logs) (document_marks (view c.args.doc.now) c.requires.document)

pub returns-clause-comes : goal.returns-clause-comes
returns-clause-comes c = rw (document_seen (view c.args.doc.now) c.requires.document) at c.in_default.ensures.comes ∙ ap Ok (sym c.clear_marks.ensures)
