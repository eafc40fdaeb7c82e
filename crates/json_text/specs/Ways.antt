-- Where tokens lead, by the lexemes of a text.
use Rattle.std.specs.Prelude.{◌≡◌, ◌≤◌, ℕ, zero, suc, ◌+◌, List, [], ◌∷◌, ◌++◌, length, Option, Some, None, IfSome, option_and_then}
use Rattle.json.specs.Json.{Json, null, boolean, number, string, array, object, Items}
use Rattle.json.specs.Lex.{Lexeme}
use Rattle.jsonptr.specs.Places.{place_of}
use Rattle.jsonptr.specs.Text.{Pointer}
use Rattle.json_lexemes.specs.Found.{Placed, named, numbered, IsCut, IsWithin, Stands}
use Rattle.json_lexemes.specs.Places.{left_at, IsEnd}
use Rattle.json_lexemes.specs.Spelled.{spelled, more_elements}
use Rattle.json_lexemes.specs.declared.span.Span.{Span}
use Rattle.json_lexemes.specs.declared.span.Next.{Next}
use Rattle.json_lexemes.specs.declared.span.Next.TheVariants.{Value, End}
use Rattle.json_text.specs.declared.children.Way.{Way}

-- the child that a token names, and the lexemes behind it, up to the end of the value
abbrev pub child_placed : List ℕ → Json → Option Placed
child_placed t null = None
child_placed t (boolean b) = None
child_placed t (number s) = None
child_placed t (string s) = None
child_placed t (array js) = option_and_then (λ n. numbered n js) (place_of t)
child_placed t (object ms) = named t ms

-- the value to which tokens lead, and the lexemes behind it, of which the last are ls
abbrev pub placed : Pointer → Json → List Lexeme → Option Placed
placed [] v ls = Some (v, ls)
placed (t ∷ P) v ls = option_and_then (λ c. placed P c.0 (c.1 ++ ls)) (child_placed t v)

-- the element that a token names in v, with ls behind that, begins there, or there is none and v ends
abbrev pub ReachesElement : List ℕ → Next → List ℕ → Json → List Lexeme → Type 0
ReachesElement t (Value i) k v ls = (j : Json) × (more : Items) × (child_placed k v ≡ Some (j, more_elements more)) × (left_at t i ≡ spelled j ++ (more_elements more ++ ls))
ReachesElement t (End i) k v ls = (child_placed k v ≡ None) × (left_at t i ≡ ls)

-- so many arrays are open, each behind an element, and ls stands behind the last
abbrev pub AreOpen : ℕ → List Lexeme → List Lexeme → Type 0
AreOpen zero now ls = now ≡ ls
AreOpen (suc n) now ls = (js : Items) × AreOpen n now (more_elements js ++ ls)

-- to what the tokens lead from v, with ls behind it
abbrev pub Leads : List ℕ → Way → Pointer → Json → List Lexeme → Type 0
Leads t w P v ls = Stands t w.found (placed P v ls) × AreOpen w.arrays (left_at t w.end) ls

-- what is found is the place of a value
abbrev pub IsPlace : List ℕ → Option Span → Type 0
IsPlace t found = IfSome found (λ s. IsCut t s × IsWithin t s)

-- by places, from where the value began
pub record IsOn (t : List ℕ) (start : ℕ) (w : Way) : Type 0 where
  pub on : w.arrays + start ≤ w.end
  pub fits : w.end ≤ length t
  pub ends : IsEnd t w.end
  pub place : IsPlace t w.found
