-- What operations leave of a document, computed.
use Rattle.std.specs.Prelude.{ℕ, zero, suc, List, [], ◌∷◌, ◌&&◌, Bool, true, false, bytes_eq, Option, Some, None}
use Rattle.std.specs.Prelude.{Result, Ok, Err, if◌then◌else◌}
use Rattle.serde_json.specs.Data.{Data}
use Rattle.jsonptr.specs.Text.{Pointer}
use Rattle.json_patch_operation.specs.Operation.{Operation, add, remove, replace, move, copy, test}
use Rattle.json_patch_operation.specs.declared.error.PatchErrorKind.{PatchErrorKind}
use Rattle.json_patch_operation.specs.declared.error.PatchErrorKind.TheVariants.{TestFailed, InvalidFromPointer, InvalidPointer}
use Rattle.json_patch_operation.specs.declared.error.PatchErrorKind.TheVariants.{CannotMoveInsideItself}
use Rattle.json_patch_document.specs.ChangeComputed.{after_add, after_remove, after_replace, pointee}
use Rattle.json_patch_document.specs.SameComputed.{same}

-- P begins Q, and something follows
abbrev pub begins : Pointer → Pointer → Bool
begins [] [] = false
begins [] (u ∷ Q) = true
begins (t ∷ P) [] = false
begins (t ∷ P) (u ∷ Q) = bytes_eq t u && begins P Q

abbrev pub or_refused : PatchErrorKind → Option Data → Result Data PatchErrorKind
or_refused kind None = Err kind
or_refused kind (Some e) = Ok e

abbrev pub after_move : Pointer → Option Data → Option Data → Result Data PatchErrorKind
after_move P (Some v) (Some m) = or_refused InvalidPointer (after_add m P v)
after_move P v m = Err InvalidFromPointer

abbrev pub after_copy : Data → Pointer → Option Data → Result Data PatchErrorKind
after_copy d P None = Err InvalidFromPointer
after_copy d P (Some v) = or_refused InvalidPointer (after_add d P v)

abbrev pub after_test : Data → Data → Option Data → Result Data PatchErrorKind
after_test d v None = Err InvalidPointer
after_test d v (Some w) = if same w v then Ok d else Err TestFailed

abbrev pub after_step : Data → Operation → Result Data PatchErrorKind
after_step d (add P v) = or_refused InvalidPointer (after_add d P v)
after_step d (remove P) = or_refused InvalidPointer (after_remove d P)
after_step d (replace P v) = or_refused InvalidPointer (after_replace d P v)
after_step d (move F P) = if begins F P then Err CannotMoveInsideItself else after_move P (pointee d F) (after_remove d F)
after_step d (copy F P) = after_copy d P (pointee d F)
after_step d (test P v) = after_test d v (pointee d P)

-- which operation is refused, and why
pub data Fault : Type 0 where
  fault : ℕ → PatchErrorKind → Fault

abbrev pub Outcome : Type 0
Outcome = Result Data Fault

abbrev pub one_later : Outcome → Outcome
one_later (Ok e) = Ok e
one_later (Err (fault k kind)) = Err (fault (suc k) kind)

abbrev pub then_run : Result Data PatchErrorKind → (Data → Outcome) → Outcome
then_run (Ok m) rest = one_later (rest m)
then_run (Err kind) rest = Err (fault zero kind)

abbrev pub after_run : Data → List Operation → Outcome
after_run d [] = Ok d
after_run d (op ∷ ops) = then_run (after_step d op) (λ m. after_run m ops)
