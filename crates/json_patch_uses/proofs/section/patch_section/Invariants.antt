use Rattle.std.proofs.Common.{◌↔◌, drop}
use Rattle.jsonptr.specs.Pointers.{tokens_of}
use Rattle.json_patch.specs.Operation.{operations}
use Rattle.json_patch.specs.Shared.{AreWithin}
use Rattle.json_patch_uses.proofs.section.patch_section.Given as goal

abbrev pub invariant-loop-number : goal.invariant-loop-number
invariant-loop-number l =
    AreWithin (tokens_of l.section) (operations l.operation-items) ↔ AreWithin (tokens_of l.section) (operations (drop l.number l.operation-items))
