-- What a guarded document holds, and what it may hold.
use Rattle.std.specs.Prelude.{ℕ}
use Rattle.serde_json.specs.Data.{Data}
use Rattle.serde_json.specs.View.{view}
use Rattle.json_patch_uses.specs.declared.guarded.Guarded.{Guarded}

abbrev pub document_in : Guarded → Data
document_in g = view g.document

-- how many levels it may have
abbrev pub levels_in : Guarded → ℕ
levels_in g = g.levels

-- how large it may be
abbrev pub most_in : Guarded → ℕ
most_in g = g.most
