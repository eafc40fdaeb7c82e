use Rattle.std.proofs.Common.{rules, arith, ℕ, ◌<◌, length}
use Rattle.std.proofs.lemmas.Grind.{common_steps}
use Rattle.jsonptr.specs.Faults.{BeginsWell, IsBareTilde}
use Rattle.jsonptr.specs.TextLaws.{text_of-none}
use Rattle.jsonptr.proofs.pointer.check.Goals as goal
use Rattle.jsonptr.proofs.pointer.check.Goals.{else-not-is_empty-via-then-not-is_empty+else-bytes-ne47}
use Rattle.jsonptr.proofs.pointer.check.Goals.{else-not-is_empty-via-else-not-is_empty}

pub returns-clause-pointer : goal.returns-clause-pointer
returns-clause-pointer c =
    let b : BeginsWell c.args.text.now = elim c.else-not-is_empty.branch [
      | else-not-is_empty-via-then-not-is_empty+else-bytes-ne47 w ↦ grind (arith, common_steps)
      | else-not-is_empty-via-else-not-is_empty w ↦ grind (arith, common_steps)
    ] in
    let n : (k : ℕ) → k < length c.args.text.now → ¬ IsBareTilde c.args.text.now k = search rules in
    text_of-none c.args.text.now b n
