use Rattle.json_patch_c.proofs.report.answer.Goals as goal

pub returns-in-Err-clause-reported : goal.returns-in-Err-clause-reported
returns-in-Err-clause-reported c =
    let told = c.refuse.ensures in
    rw c.in-Err.is (record {
      refused = told.refused;
      no_document = told.no_document;
      no_patch = told.no_patch;
      no_memory = told.no_memory;
      over = told.over;
      ends = told.status;
      untouched = told.unchanged;
    })
