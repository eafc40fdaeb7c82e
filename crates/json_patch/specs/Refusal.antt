-- What the calls say of a patch that isn't applied.
use Rattle.std.specs.Prelude.{◌≡◌, List, Some, Result, Ok, Err, option_map, slice_get}
use Rattle.serde_json.specs.Data.{Data}
use Rattle.json_patch_operation.specs.Operation.{Operation, path_of}
use Rattle.json_patch_laws.specs.Run.{RefusesAt}
use Rattle.json_patch_operation.specs.declared.error.PatchError.{PatchError}
use Rattle.json_patch_operation.specs.declared.error.PatchFault.{PatchFault}
use Rattle.json_patch_operation.specs.declared.error.PatchFault.TheVariants.{Refused, Memory}

-- e names the first operation that is refused on the way from d, with its path, and why
abbrev pub NamesFirst : Data → List Operation → PatchError → Type 0
NamesFirst d ops e = RefusesAt d ops e.operation e.kind × (option_map path_of (slice_get ops e.operation) ≡ Some e.path)

-- what holds of a refusal
abbrev pub IfRefused : {T : Type 0} → Result T PatchFault → (PatchError → Type 0) → Type 0
IfRefused (Ok x) P = Unit {0}
IfRefused (Err (Refused e)) P = P e
IfRefused (Err (Memory e)) P = Unit {0}

-- what holds where memory was short
abbrev pub IfShort : {T : Type 0} → Result T PatchFault → Type 0 → Type 0
IfShort (Ok x) P = Unit {0}
IfShort (Err (Refused e)) P = Unit {0}
IfShort (Err (Memory e)) P = P
