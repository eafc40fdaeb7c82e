-- What settings with a trail show.
use Rattle.std.specs.Prelude.{List}
use Rattle.serde_json.specs.Data.{Data}
use Rattle.serde_json.specs.View.{view}
use Rattle.json_patch.specs.Trails.{LeadsTo}
use Rattle.json_patch.specs.Patch.{Patch}
use Rattle.json_patch_uses.specs.declared.settings.Settings.{Settings}

abbrev pub values_of : Settings → Data
values_of s = view s.values

-- the patches that take the changes back, the latest first
abbrev pub trail_of : Settings → List Patch
trail_of s = s.trail.items

-- the trail leads back to these values
abbrev pub BeganAs : Settings → Data → Type 0
BeganAs s first = LeadsTo (values_of s) (trail_of s) first
