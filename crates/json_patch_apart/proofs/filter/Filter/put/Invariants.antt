use Rattle.json_patch_apart.proofs.Common.{◌≡◌, List, Bool, true, false, tokens_left, tokens_of}
use Rattle.std.proofs.Common.{◌<◌, get_or}
use Rattle.json_patch_apart.specs.Filters.{Along, KeepsSlots, KeepsTaken, slot_from}
use Rattle.json_patch_apart.proofs.filter.Filter.put.Given as goal

abbrev pub invariant-loop-token : goal.invariant-loop-token
invariant-loop-token l =
    KeepsSlots l.fn.self l.self × (get_or l.self.begun l.slot false ≡ true) × (l.slot < 16384)
    × (slot_from l.slot (tokens_left l.token-iterator) ≡ slot_from 0 (tokens_of l.fn.pointer))
    × ((slots : List Bool) → KeepsTaken l.self.begun slots → Along true slots l.slot (tokens_left l.token-iterator) → Along true slots 0 (tokens_of l.fn.pointer))
    × ((goal.iterator-loop-token).can_next l.token-iterator × (goal.iterator-loop-token).is_finite l.token-iterator)
