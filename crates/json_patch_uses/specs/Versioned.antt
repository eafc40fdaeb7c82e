-- A version that a document has, and why a change for one isn't made.
use Rattle.std.specs.Prelude.{ℕ, List, [], ◌∷◌, codes}
use Rattle.serde_json.specs.Data.{Data, number, unsigned}
use Rattle.json_patch.specs.Operation.{Operation}
use Rattle.json_patch.specs.Refusal.{NamesFirst}
use Rattle.json_patch.specs.Resolve.{StandsAt}
use Rattle.json_patch_uses.specs.declared.versioned.VersionFault.{VersionFault}
use Rattle.json_patch_uses.specs.declared.versioned.VersionFault.TheVariants.{Stale, Refused, Memory}

-- this number stands at the member `version`
abbrev pub HasVersion : Data → ℕ → Type 0
HasVersion d n = StandsAt d (codes "version" ∷ []) (number (unsigned n))

-- d has another version, or it has this one and refuses the operations
abbrev pub IsVersionFault : Data → ℕ → List Operation → VersionFault → Type 0
IsVersionFault d n ops Stale = HasVersion d n → ⊥
IsVersionFault d n ops (Refused e) = HasVersion d n × NamesFirst d ops e
IsVersionFault d n ops (Memory e) = Unit {0}
