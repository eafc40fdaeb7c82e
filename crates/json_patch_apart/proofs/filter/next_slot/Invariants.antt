use Rattle.json_patch_apart.proofs.Common.{◌≡◌, token_of, drop}
use Rattle.std.proofs.Common.{◌<◌}
use Rattle.json_patch_apart.specs.Filters.{mixed, slot_after}
use Rattle.json_patch_apart.proofs.filter.next_slot.Given as goal

abbrev pub invariant-loop-byte : goal.invariant-loop-byte
invariant-loop-byte l = (l.hash < 16384) × (mixed l.hash (drop l.byte-index l.byte-items) ≡ slot_after l.fn.slot (token_of l.fn.last))
