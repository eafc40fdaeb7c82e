use Rattle.json_patch_answers.proofs.RecordLines.{leads_to, is_document}
use Rattle.json_patch_answers.proofs.answer.record.Goals as goal

pub returns-clause-leads_back : goal.returns-clause-leads_back
returns-clause-leads_back c =
    let undo = c.in_ok-undo.ensures in
    leads_to _ _ _ _ c.in_ok-pair.ensures c.in_ok-to_value.ensures undo.document (c.values.ensures.written_reads_back _ undo.undo_whole).reads
    (c.values.ensures.written_is_document _ undo.undo_whole) _ undo.leads_back.accepts

pub returns-clause-document : goal.returns-clause-document
returns-clause-document c =
    let undo = c.in_ok-undo.ensures in
    is_document _ _ _ _ c.in_ok-pair.ensures c.in_ok-to_value.ensures undo.document (c.values.ensures.written_reads_back _ undo.undo_whole).reads
    (c.values.ensures.written_is_document _ undo.undo_whole)
