use Rattle.json_patch_apart.proofs.Common.{◌↔◌, length, operations}
use Rattle.json_patch_apart.specs.Apart.{AreApart}
use Rattle.json_patch_apart.proofs.apart.are_apart.Given as goal

abbrev pub invariant-loop-rest : goal.invariant-loop-rest
invariant-loop-rest l = AreApart (operations l.xs) (operations l.fn.ys) ↔ AreApart (operations l.xs) (operations l.rest)

abbrev pub decreases-loop-rest : goal.decreases-loop-rest
decreases-loop-rest l = length l.rest
