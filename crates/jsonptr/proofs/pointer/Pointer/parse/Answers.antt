use Rattle.jsonptr.proofs.Texts.{no_pointer, on_err}
use Rattle.jsonptr.proofs.pointer.Pointer.parse.Goals as goal

pub returns-in_err-check-clause-no_pointer : goal.returns-in_err-check-clause-no_pointer
returns-in_err-check-clause-no_pointer c = on_err _ (no_pointer _ _ c.in_err-check.ensures.fault)
