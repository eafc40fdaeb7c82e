use Rattle.json_patch_operation.proofs.Common.{◌≡◌, ℕ, List, [], ◌++◌, drop, operations, operation_items, printed_items}
use Rattle.json_patch_operation.proofs.Common.{HasWritten, IsPlainFormatter, Utf8, shadow}
use Rattle.json_patch_operation.proofs.printing.PatchDisplay.fmt.Given as goal

-- what is written, and the operations that are left, are all the operations
abbrev pub invariant-operations : goal.invariant-operations
invariant-operations g l =
    shadow (Utf8 l.comma)
    × (IsPlainFormatter l.initial.f → (done : List ℕ) × HasWritten g.W.Write.write_str_gives l.initial.f done l.f
    × (done ++ printed_items l.comma (operation_items (operations (drop l.operation-index l.operation-items))) ≡ printed_items [] (operation_items (operations l.operation-items))))
