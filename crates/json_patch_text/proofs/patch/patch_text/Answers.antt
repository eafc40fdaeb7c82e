use Rattle.std.proofs.Common.{sym, subst}
use Rattle.json_patch_text.specs.Patched.{HasTexts}
use Rattle.json_patch_text.proofs.Within.{run_fault}
use Rattle.json_patch_text.proofs.patch.patch_text.Goals as goal

pub returns-in-Err-Patch-clause-fault : goal.returns-in-Err-Patch-clause-fault
returns-in-Err-Patch-clause-fault c =
    run_fault c.args.text.now c.args.patch.now c.as_slice.result.now c.in-Err-Patch.fault (subst (HasTexts c.args.patch.now) (sym c.as_slice.ensures.value) c.in_ok-operations.ensures.read)
    (λ ops w. ((rw (c.in_ok-document.ensures.text, c.in-Err-Patch.field-0-is) at c.in-Err-Patch.ensures.fault) ops w).0)
