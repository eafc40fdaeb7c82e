use Rattle.json_patch_answers.proofs.ModeAnswers.{line_answered, fault_answered, record_given, record_leads_back}
use Rattle.json_patch_answers.proofs.answer.respond.Goals as goal

pub returns-in-Patch-clause-line : goal.returns-in-Patch-clause-line
returns-in-Patch-clause-line c = line_answered c.args.mode _ c.in-Patch.is _ _ _ c.patched.result c.in_ok-document.ensures.pair c.patched.ensures.line

pub returns-in-Patch-clause-fault : goal.returns-in-Patch-clause-fault
returns-in-Patch-clause-fault c = fault_answered c.args.mode _ c.in-Patch.is _ _ _ c.patched.result c.in_ok-document.ensures.pair c.patched.ensures.fault

pub returns-in-Record-clause-line : goal.returns-in-Record-clause-line
returns-in-Record-clause-line c = line_answered c.args.mode _ c.in-Record.is _ _ _ c.recorded.result c.in_ok-document.ensures.pair (record_given _ _ c.recorded.result c.recorded.ensures.line)

pub returns-in-Record-clause-fault : goal.returns-in-Record-clause-fault
returns-in-Record-clause-fault c = fault_answered c.args.mode _ c.in-Record.is _ _ _ c.recorded.result c.in_ok-document.ensures.pair c.recorded.ensures.fault

pub returns-in-Record-clause-leads_back : goal.returns-in-Record-clause-leads_back
returns-in-Record-clause-leads_back c = record_leads_back _ _ _ _ c.recorded.result c.in_ok-document.ensures.pair c.recorded.ensures.line

pub returns-in-Merge-clause-line : goal.returns-in-Merge-clause-line
returns-in-Merge-clause-line c = line_answered c.args.mode _ c.in-Merge.is _ _ _ c.merged.result c.in_ok-document.ensures.pair c.merged.ensures.line

pub returns-in-Merge-clause-fault : goal.returns-in-Merge-clause-fault
returns-in-Merge-clause-fault c = fault_answered c.args.mode _ c.in-Merge.is _ _ _ c.merged.result c.in_ok-document.ensures.pair c.merged.ensures.fault

pub returns-clause-line : goal.returns-clause-line
returns-clause-line c = line_answered c.args.mode _ c.in-Edit.is _ _ _ c.edited.result c.in_ok-document.ensures.pair c.edited.ensures.line

pub returns-clause-fault : goal.returns-clause-fault
returns-clause-fault c = fault_answered c.args.mode _ c.in-Edit.is _ _ _ c.edited.result c.in_ok-document.ensures.pair c.edited.ensures.fault
