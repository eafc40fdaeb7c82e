-- The versions of a document, and what applying, undoing and redoing make of them.
use Rattle.std.specs.Prelude.{ℕ, List, [], ◌∷◌, take}
use Rattle.serde_json.specs.Data.{Data}

-- the version here, those before it and those after it, the nearest first, and how many may stand before it
pub record Versions : Type 0 where
  pub before : List Data
  pub here : Data
  pub after : List Data
  pub depth : ℕ

abbrev pub initial : ℕ → Data → Versions
initial depth d = record { before = []; here = d; after = []; depth = depth }

-- what follows is cut, e is added, and the first is dropped where more than `depth` stand before it
abbrev pub after_apply : Data → Versions → Versions
after_apply e vs = record { before = take vs.depth (vs.here ∷ vs.before); here = e; after = []; depth = vs.depth }

abbrev pub back_to : List Data → Versions → Versions
back_to [] vs = vs
back_to (d ∷ ds) vs = record { before = ds; here = d; after = vs.here ∷ vs.after; depth = vs.depth }

abbrev pub on_to : List Data → Versions → Versions
on_to [] vs = vs
on_to (d ∷ ds) vs = record { before = vs.here ∷ vs.before; here = d; after = ds; depth = vs.depth }

-- one version back, if one stands before
abbrev pub after_undo : Versions → Versions
after_undo vs = back_to vs.before vs

-- one version on, if one stands after
abbrev pub after_redo : Versions → Versions
after_redo vs = on_to vs.after vs
