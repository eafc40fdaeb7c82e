-- For private clauses: what an operation comes to on a tree, computed but for what a `test` compares.
use Rattle.std.specs.Prelude.{◌≡◌, Option, Some, None, Result, Ok, Err, if◌then◌else◌}
use Rattle.json.specs.Json.{Json}
use Rattle.jsonptr.specs.Text.{Pointer}
use Rattle.json_patch_edit.specs.RunComputed.{begins}
use Rattle.json_patch_operation.specs.declared.error.PatchErrorKind.{PatchErrorKind}
use Rattle.json_patch_operation.specs.declared.error.PatchErrorKind.TheVariants.{TestFailed, InvalidFromPointer, InvalidPointer, CannotMoveInsideItself}
use Rattle.json_patch_text.specs.Changed.{added, removed, replaced}
use Rattle.json_patch_text.specs.Operations.{TreeOperation, add, remove, replace, move, copy, test}
use Rattle.json_reading.specs.Same.{SameTree}
use Rattle.json_text.specs.Pointed.{tree_at}

abbrev pub or_refused : PatchErrorKind → Option Json → Result Json PatchErrorKind
or_refused kind None = Err kind
or_refused kind (Some j) = Ok j

abbrev pub after_move : Pointer → Option Json → Option Json → Result Json PatchErrorKind
after_move P (Some v) (Some m) = or_refused InvalidPointer (added P v m)
after_move P v m = Err InvalidFromPointer

abbrev pub after_copy : Json → Pointer → Option Json → Result Json PatchErrorKind
after_copy i P None = Err InvalidFromPointer
after_copy i P (Some v) = or_refused InvalidPointer (added P v i)

-- the tree i is left where w is what stands there, if anything does
abbrev pub Tests : Json → Json → Option Json → Result Json PatchErrorKind → Type 0
Tests i w None o = o ≡ Err InvalidPointer
Tests i w (Some v) (Ok j) = SameTree v w × (j ≡ i)
Tests i w (Some v) (Err kind) = (SameTree v w → ⊥) × (kind ≡ TestFailed)

abbrev pub ComesTo : Json → TreeOperation → Result Json PatchErrorKind → Type 0
ComesTo i (add P w) o = o ≡ or_refused InvalidPointer (added P w i)
ComesTo i (remove P) o = o ≡ or_refused InvalidPointer (removed P i)
ComesTo i (replace P w) o = o ≡ or_refused InvalidPointer (replaced P w i)
ComesTo i (move F P) o = o ≡ (if begins F P then Err CannotMoveInsideItself else after_move P (tree_at F i) (removed F i))
ComesTo i (copy F P) o = o ≡ after_copy i P (tree_at F i)
ComesTo i (test P w) o = Tests i w (tree_at P i) o
