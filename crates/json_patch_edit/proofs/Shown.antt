-- What is found in a marked document.
use Rattle.json_patch_edit.proofs.Common.{◌≡◌, Option, Some, option_map, sym, ap, ◌∙◌, Data, pointee}
use Rattle.json_patch_edit.proofs.Common.{Pointer}
use Rattle.json_patch_edit.proofs.MarkedChanges.{found_seen}
use Rattle.json_patch_edit.proofs.MarkedRuns.{found_value}
use Rattle.json_patch_edit.specs.Marked.{IsValue, seen, shown}

pub found_shown : (p : Data) (P : Pointer) (o : Option Data) → IsValue p → o ≡ pointee p P → option_map seen (shown o) ≡ pointee (seen p) P
found_shown p P o hp is = ap (λ x. option_map seen (shown x)) is ∙ sym (found_seen p P hp)

pub value_shown : (p : Data) (P : Pointer) (o : Option Data) → IsValue p → o ≡ pointee p P → (v : Data) → shown o ≡ Some v → IsValue v
value_shown p P o hp is v at = found_value p v P hp.0 (ap shown (sym is) ∙ at)
