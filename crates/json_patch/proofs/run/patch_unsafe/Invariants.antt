use Rattle.json_patch.proofs.Common.{view}
use Rattle.json_patch.proofs.ProgramRuns.{IsState}
use Rattle.json_patch.proofs.run.patch_unsafe.Given as goal

abbrev pub invariant-loop-number : goal.invariant-loop-number
invariant-loop-number l = IsState (view l.fn.doc) l.patch l.number (view l.doc)
