use Rattle.json_patch_apart.proofs.Common.{drop, operations}
use Rattle.std.specs.List.{AllByRecursion}
use Rattle.json_patch_apart.specs.Filters.{HasAll, KeepsSlots}
use Rattle.json_patch_apart.specs.declared.filter.Filter.{Filter}
use Rattle.json_patch_apart.proofs.apart.filter_of.Given as goal

-- a filter that keeps the slots and has the operations that are left has all of them
abbrev pub invariant-loop-operation : goal.invariant-loop-operation
invariant-loop-operation l = (f : Filter) → KeepsSlots l.filter f → AllByRecursion (HasAll f) (operations (drop l.operation-index l.few)) → AllByRecursion (HasAll f) (operations l.few)
