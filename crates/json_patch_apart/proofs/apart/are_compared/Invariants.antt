use Rattle.json_patch_apart.proofs.Common.{◌↔◌, drop, operations}
use Rattle.json_patch_apart.specs.Apart.{AreApart}
use Rattle.json_patch_apart.proofs.apart.are_compared.Given as goal

abbrev pub invariant-loop-x : goal.invariant-loop-x
invariant-loop-x l = AreApart (operations l.xs) (operations l.ys) ↔ AreApart (operations (drop l.x-index l.xs)) (operations l.ys)
