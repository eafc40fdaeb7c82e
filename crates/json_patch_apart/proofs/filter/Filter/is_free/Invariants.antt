use Rattle.json_patch_apart.proofs.Common.{◌≡◌, false, tokens_left, tokens_of}
use Rattle.std.proofs.Common.{◌<◌}
use Rattle.json_patch_apart.specs.Filters.{Along, slot_from}
use Rattle.json_patch_apart.proofs.filter.Filter.is_free.Given as goal

abbrev pub invariant-loop-token : goal.invariant-loop-token
invariant-loop-token l =
    (l.slot < 16384) × (slot_from l.slot (tokens_left l.token-iterator) ≡ slot_from 0 (tokens_of l.fn.pointer))
    × (Along false l.self.whole l.slot (tokens_left l.token-iterator) → Along false l.self.whole 0 (tokens_of l.fn.pointer))
    × ((goal.iterator-loop-token).can_next l.token-iterator × (goal.iterator-loop-token).is_finite l.token-iterator)
