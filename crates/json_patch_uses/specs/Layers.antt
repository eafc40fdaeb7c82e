-- Several merge patches, and a name that they leave out.
use Rattle.std.specs.Prelude.{◌≡◌, ℕ, List, [], ◌∷◌, None}
use Rattle.serde_json.specs.Data.{Data}
use Rattle.serde_json.specs.Find.{get}
use Rattle.serde_json.specs.View.{view}
use Rattle.serde_json.specs.declared.value.Value.{Value}
use Rattle.json_patch.specs.Document.{sight_of}
use Rattle.json_patch.specs.Sight.{Sight}
use Rattle.json_patch.specs.Merged.{IsMerged}

-- e is d with the merge patches merged into it, one after another
abbrev pub AreMerged : Data → List Data → Data → Type 0
AreMerged d [] e = d ≡ e
AreMerged d (p ∷ ps) e = (m : Data) × IsMerged d p m × AreMerged m ps e

-- each layer is an object with no member k
abbrev pub LeavesOut : List ℕ → List Value → Type 0
LeavesOut k [] = Unit {0}
LeavesOut k (v ∷ vs) = (sight_of (view v) ≡ Sight.object) × (get k (view v) ≡ None) × LeavesOut k vs
