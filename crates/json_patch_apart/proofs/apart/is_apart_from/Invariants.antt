use Rattle.json_patch_apart.proofs.Common.{◌↔◌, drop, operation_of, operations}
use Rattle.json_patch_apart.specs.Apart.{IsApartFrom}
use Rattle.json_patch_apart.proofs.apart.is_apart_from.Given as goal

abbrev pub invariant-loop-y : goal.invariant-loop-y
invariant-loop-y l = IsApartFrom (operation_of l.x) (operations l.ys) ↔ IsApartFrom (operation_of l.x) (operations (drop l.y-index l.ys))
