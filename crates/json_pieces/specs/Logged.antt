-- What is logged of a call, and where that leads back to.
use Rattle.std.specs.Prelude.{◌≡◌, List, [], ◌∷◌, ◌++◌, Option, Some, None, String, ⊤}
use Rattle.std.specs.String.{string_bytes}
use Rattle.std.specs.declared.alloc.Global.{Global}
use Rattle.json_pieces.specs.Backs.{AreBack, IsBack, IsBackAt, IsInRow, step_of}
use Rattle.json_pieces.specs.Finer.{IsOpenedFrom}
use Rattle.json_pieces.specs.Held.{Held}
use Rattle.json_pieces.specs.declared.back.Back.{Back}
use Rattle.json_pieces.specs.declared.back.Level.{Level}
use Rattle.json_pieces.specs.declared.node.Node.{Node}
use Rattle.json_pieces.specs.Nodes.{tree_text, view}

-- ---- one step

-- it makes of u what t was, or that with more room
abbrev pub IsStep : Back → Held → Held → Type 0
IsStep c t u = (was : Held) × IsOpenedFrom t was × IsBack (step_of c) u was

-- a copy, if there is one, is that of v
abbrev pub IsCopyOf : Option (String Global) → Node → Type 0
IsCopyOf None v = ⊤
IsCopyOf (Some s) v = string_bytes s ≡ tree_text (view v)

-- ---- all of a call

-- the steps make of u what t was, or that with more of it opened
pub record StepsBack (steps : List Back) (t u : Held) : Type 0 where
  pub was : Held
  pub opened : IsOpenedFrom t was
  pub back : AreBack steps u was

-- with no step nothing was changed
abbrev pub IsStepped : List Back → Held → Held → Type 0
IsStepped [] t u = IsOpenedFrom t u
IsStepped (c ∷ cs) t u = StepsBack (c ∷ cs) t u

-- the same where the levels lead that news has more than olds
pub record WayBack (steps : List Back) (olds news : List Level) (t u : Held) : Type 0 where
  pub levels : List Level
  pub are : news ≡ olds ++ levels
  pub was : Held
  pub opened : IsOpenedFrom t was
  pub back : IsBackAt levels steps u was

abbrev pub IsLed : List Back → List Level → List Level → Held → Held → Type 0
IsLed [] olds news t u = IsOpenedFrom t u
IsLed (c ∷ cs) olds news t u = WayBack (c ∷ cs) olds news t u

abbrev pub AreInRow : List Back → Type 0
AreInRow [] = ⊤
AreInRow (c ∷ cs) = IsInRow (step_of c) × AreInRow cs
