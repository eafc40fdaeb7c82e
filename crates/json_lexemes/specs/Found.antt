-- Where the value of a member or of an element stands, and what follows it.
use Rattle.std.specs.Prelude.{◌≡◌, ◌⊎◌, ◌<◌, ◌≤◌, ◌++◌, ℕ, zero, suc, List, length, get_or, cond, false, Option, Some, None, ⊤}
use Rattle.std.specs.Str.{bytes_eq, IsUtf8, IsCharBoundary}
use Rattle.json.specs.Json.{Json, Items, no_items, item, Members, no_members, member}
use Rattle.json.specs.Lex.{Lexeme, between}
use Rattle.json.specs.Word.{is_space}
use Rattle.json_lexemes.specs.Spelled.{spelled, first_elements, more_elements, more_members}
use Rattle.json_lexemes.specs.Places.{mode_at, left_at, IsEnd, HasEnd}
use Rattle.json_lexemes.specs.declared.span.Span.{Span}
use Rattle.json_lexemes.specs.declared.span.Next.{Next}
use Rattle.json_lexemes.specs.declared.span.Next.TheVariants.{Value, End}

-- a value, and the lexemes behind it
abbrev pub Placed : Type 0
Placed = Json × List Lexeme

abbrev pub or_else : {A : Type 0} → Option A → Option A → Option A
or_else None b = b
or_else (Some a) b = Some a

-- the value of the last member of this name
abbrev pub named : List ℕ → Members → Option Placed
named k no_members = None
named k (member l j ms) = or_else (named k ms) (cond (bytes_eq l k) (Some (j, more_members ms)) None)

-- the element of this number
abbrev pub numbered : ℕ → Items → Option Placed
numbered n no_items = None
numbered zero (item j js) = Some (j, more_elements js)
numbered (suc n) (item j js) = numbered n js

-- the elements behind the first so many
abbrev pub later : ℕ → Items → Items
later zero js = js
later (suc n) no_items = no_items
later (suc n) (item j js) = later n js

-- in the place found, if any, the value stands, if any
abbrev pub Stands : List ℕ → Option Span → Option Placed → Type 0
Stands t None None = ⊤
Stands t None (Some p) = ⊥
Stands t (Some s) None = ⊥
Stands t (Some s) (Some p) = (left_at t s.start ≡ spelled p.0 ++ p.1) × (left_at t s.end ≡ p.1)

-- no lexeme is cut at either side, and no whitespace stands within at either
pub record IsCut (t : List ℕ) (s : Span) : Type 0 where
  pub begins : mode_at t s.start ≡ between
  pub ends : IsEnd t s.end
  pub front : s.start < length t → is_space (get_or t s.start 0) ≡ false
  pub back : (s.end ≡ s.start) ⊎ HasEnd t s.end

-- it lies in the text, and cuts no character
pub record IsWithin (t : List ℕ) (s : Span) : Type 0 where
  pub order : s.start ≤ s.end
  pub fits : s.end ≤ length t
  pub boundary : IsUtf8 t → IsCharBoundary t s.start × IsCharBoundary t s.end

-- a value begins there: no lexeme and no character is cut, and no whitespace stands
pub record IsFront (t : List ℕ) (i : ℕ) : Type 0 where
  pub fits : i ≤ length t
  pub begins : mode_at t i ≡ between
  pub solid : i < length t → is_space (get_or t i 0) ≡ false
  pub boundary : IsUtf8 t → IsCharBoundary t i

-- what is reached from a place on
abbrev pub IsReached : List ℕ → ℕ → Next → Type 0
IsReached t from (Value i) = (from < i) × IsFront t i
IsReached t from (End i) = (from ≤ i) × (i ≤ length t) × IsEnd t i

-- of the members ms of an object, with ls behind it, the first of this name has its value there, or none has the name and the object ends
abbrev pub ReachesNamed : List ℕ → Next → List ℕ → Members → List Lexeme → Type 0
ReachesNamed t (Value i) k ms ls = (j : Json) × (more : Members) × (named k ms ≡ or_else (named k more) (Some (j, more_members more))) × (left_at t i ≡ spelled j ++ (more_members more ++ ls))
ReachesNamed t (End i) k ms ls = (named k ms ≡ None) × (left_at t i ≡ ls)

-- of the elements js of an array, with ls behind it, that of this number stands there, or there are fewer and the array ends
abbrev pub ReachesNumbered : List ℕ → Next → ℕ → Items → List Lexeme → Type 0
ReachesNumbered t (Value i) n js ls = (j : Json) × (more : Items) × (numbered n js ≡ Some (j, more_elements more)) × (left_at t i ≡ spelled j ++ (more_elements more ++ ls))
ReachesNumbered t (End i) n js ls = (numbered n js ≡ None) × (left_at t i ≡ ls)

-- of the elements js those of rest are still ahead at i, and the one of number n is there that of number m
abbrev pub AreAhead : List ℕ → ℕ → Items → List Lexeme → ℕ → ℕ → Type 0
AreAhead t n js ls i m = (rest : Items) × (left_at t i ≡ first_elements rest ++ ls) × (numbered n js ≡ numbered m rest)
