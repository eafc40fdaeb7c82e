use Rattle.std.specs.List.{AllWithin}
use Rattle.json_patch.specs.Apart.{AreApart}
use Rattle.json_patch.specs.Operation.{operations}
use Rattle.json_patch_uses.specs.History.{patch_of}
use Rattle.json_patch_uses.proofs.shared.SharedDocument.first_collision.Given as goal

abbrev pub invariant-loop-n : goal.invariant-loop-n
invariant-loop-n l = AllWithin (λ c. AreApart (operations l.patch) (patch_of c)) l.self.changes.items l.version l.n
