-- What one operation leaves of a document, or why it is refused (RFC 6902, sections 4 and 5).
use Rattle.std.specs.Prelude.{◌≡◌}
use Rattle.serde_json.specs.Data.{Data}
use Rattle.jsonptr.specs.Text.{IsProperPrefix}
use Rattle.json_patch_document.specs.Resolve.{StandsAt}
use Rattle.json_patch_edit.specs.Change.{IsAdded, IsRemoved, IsReplaced}
use Rattle.json_patch_operation.specs.Operation.{Operation, add, remove, replace, move, copy, test}
use Rattle.json_patch_operation.specs.declared.error.PatchErrorKind.{PatchErrorKind}
use Rattle.json_patch_operation.specs.declared.error.PatchErrorKind.TheVariants.{TestFailed, InvalidFromPointer, InvalidPointer}
use Rattle.json_patch_operation.specs.declared.error.PatchErrorKind.TheVariants.{CannotMoveInsideItself}

-- R holds of no e
abbrev pub Never : (Data → Type 0) → Type 0
Never R = (e : Data) → R e → ⊥

-- op is accepted on d, and leaves e
abbrev pub Leaves : Data → Operation → Data → Type 0
Leaves d (add P v) e = IsAdded d P v e
Leaves d (remove P) e = IsRemoved d P e
Leaves d (replace P v) e = IsReplaced d P v e
Leaves d (move F P) e = (IsProperPrefix F P → ⊥) × ((v m : Data) × StandsAt d F v × IsRemoved d F m × IsAdded m P v e)
Leaves d (copy F P) e = (v : Data) × StandsAt d F v × IsAdded d P v e
Leaves d (test P v) e = StandsAt d P v × (e ≡ d)

-- op is refused on d, for this kind
abbrev pub Refuses : Data → Operation → PatchErrorKind → Type 0
Refuses d (add P v) InvalidPointer = Never (IsAdded d P v)
Refuses d (remove P) InvalidPointer = Never (IsRemoved d P)
Refuses d (replace P v) InvalidPointer = Never (IsReplaced d P v)
Refuses d (move F P) CannotMoveInsideItself = IsProperPrefix F P
Refuses d (move F P) InvalidFromPointer = (IsProperPrefix F P → ⊥) × Never (IsRemoved d F)
Refuses d (move F P) InvalidPointer = (IsProperPrefix F P → ⊥) × ((v m : Data) × StandsAt d F v × IsRemoved d F m × Never (IsAdded m P v))
Refuses d (copy F P) InvalidFromPointer = Never (StandsAt d F)
Refuses d (copy F P) InvalidPointer = (v : Data) × StandsAt d F v × Never (IsAdded d P v)
Refuses d (test P v) InvalidPointer = Never (StandsAt d P)
Refuses d (test P v) TestFailed = (w : Data) × StandsAt d P w × (w ≡ v → ⊥)
Refuses d op kind = ⊥
