-- For private clauses: the pointers of an operation, as the program holds them.
use Rattle.std.specs.Prelude.{◌≡◌, ◌++◌, List, [], ◌∷◌, Option, Some, None}
use Rattle.jsonptr.specs.Pointers.{tokens_of}
use Rattle.jsonptr.specs.Text as text
use Rattle.jsonptr.specs.declared.pointer.Pointer.{Pointer}
use Rattle.json_patch_apart.specs.Apart.{AllDiverge, changed_by, read_by}
use Rattle.json_patch_operation.specs.Operation.{Operation}
use Rattle.json_patch_apart.specs.declared.apart.Footprint.{Footprint}

-- the pointer, if there is one
abbrev pub listed : Option Pointer → List text.Pointer
listed None = []
listed (Some p) = tokens_of p ∷ []

abbrev pub pointers_changed : Footprint → List text.Pointer
pointers_changed f = listed f.source ++ listed f.target

abbrev pub IsFootprint : Footprint → Operation → Type 0
IsFootprint f op = (changed_by op ≡ pointers_changed f) × (read_by op ≡ listed f.read)

-- what the one changes diverges from what the other changes or reads
abbrev pub AreBeside : Footprint → Footprint → Type 0
AreBeside f g =
    AllDiverge (pointers_changed f) (pointers_changed g)
    × AllDiverge (pointers_changed f) (listed g.read) × AllDiverge (pointers_changed g) (listed f.read)
