-- A text with one member or element cut out, and every other byte kept.
use Rattle.std.specs.Prelude.{◌≡◌, ◌⊎◌, ℕ, zero, suc, ◌-◌, List, [], ◌∷◌, ◌++◌, length, get_or, false, ⊤}
use Rattle.json.specs.Json.{Json}
use Rattle.json.specs.Token as t
use Rattle.json.specs.Lex.{Lexeme, token, comma, colon, between, lex}
use Rattle.json.specs.Word.{is_space}
use Rattle.jsonptr.specs.Text.{Pointer}
use Rattle.json_text.specs.Changed.{remove_at}
use Rattle.json_text.specs.Faults.{IsTextFault}
use Rattle.json_text.specs.Pointed.{ParentStands, StandsBetween}
use Rattle.json_text.specs.Replaced.{LeadsNowhere}
use Rattle.json_lexemes.specs.Spelled.{IsShallowText, Says}
use Rattle.json_text.specs.declared.fault.ChangeFault.{ChangeFault}
use Rattle.json_text.specs.declared.fault.ChangeFault.TheVariants.{Text, Value, NoTarget, Memory}

-- ---- the piece that is cut out with a value

-- no whitespace stands at its front; at its end
abbrev pub IsTightFront : List ℕ → Type 0
IsTightFront s = is_space (get_or s 0 32) ≡ false

abbrev pub IsTightEnd : List ℕ → Type 0
IsTightEnd s = is_space (get_or s (length s - 1) 32) ≡ false

-- what stands before a value: the name of a member and its colon, and nothing before an element
abbrev pub IsNaming : List Lexeme → Type 0
IsNaming ls = (ls ≡ []) ⊎ ((k : List ℕ) × (ls ≡ token (t.string k) ∷ colon ∷ []))

-- A value stands in its object or array between front and back, which go with it, and these between before and behind. It is
-- not the last: the piece goes from its start to the start of the next;
abbrev pub UpToNext : List Lexeme → List ℕ → List ℕ → List ℕ → List ℕ → Type 0
UpToNext name front value back behind = IsTightFront (front ++ value) × (lex between front ≡ name) × (lex between back ≡ comma ∷ []) × IsTightFront behind

-- the last: from the end of the one before to its own end;
abbrev pub FromTheOneBefore : List Lexeme → List ℕ → List ℕ → List ℕ → List ℕ → Type 0
FromTheOneBefore name before front back behind = IsTightEnd before × (lex between front ≡ comma ∷ name) × (back ≡ []) × ((ls : List Lexeme) → lex between behind ≡ comma ∷ ls → ⊥)

-- alone: all between the brackets
abbrev pub AllBetween : List Lexeme → List ℕ → List ℕ → List ℕ → List ℕ → Type 0
AllBetween name before front back behind = IsTightEnd before × (lex between front ≡ name) × (lex between back ≡ []) × IsTightFront behind

abbrev pub IsPiece : List ℕ → List ℕ → List ℕ → List ℕ → List ℕ → Type 0
IsPiece before front value back behind = (name : List Lexeme) × IsNaming name
    × (UpToNext name front value back behind ⊎ (FromTheOneBefore name before front back behind ⊎ AllBetween name before front back behind))

-- ---- cut out

-- new is the text of v without what t names in v, which is cut out in one piece
pub record IsCutOut (text : List ℕ) (v : Json) (t new : List ℕ) : Type 0 where
  pub before : List ℕ
  pub front : List ℕ
  pub value : List ℕ
  pub back : List ℕ
  pub behind : List ℕ
  pub whole : text ≡ before ++ (front ++ (value ++ (back ++ behind)))
  pub stood : StandsBetween (before ++ front) value (back ++ behind) v (t ∷ [])
  pub piece : IsPiece before front value back behind
  pub cut : new ≡ before ++ behind

-- the same of n, one after another: an object may have several members of one name
abbrev pub AreCutOut : ℕ → List ℕ → Json → List ℕ → List ℕ → Type 0
AreCutOut zero text v t new = new ≡ text
AreCutOut (suc n) text v t new = (less : List ℕ) × (w : Json) × AreCutOut n text v t less × Says less w × IsCutOut less w t new

-- in the text the object or array where the tokens but the last lead has all that the last one names cut out
pub record IsRemoved (text : List ℕ) (P : Pointer) (new : List ℕ) : Type 0 where
  pub tree : Json
  pub says : IsShallowText text tree
  pub at : ParentStands text tree P
  pub others : ℕ
  pub less : List ℕ
  pub cut : AreCutOut (suc others) at.own at.parent at.last less
  pub exchanged : new ≡ at.before ++ (less ++ at.behind)
  pub after : Says new (remove_at P tree)

-- P leads nowhere in the text, or is the whole
abbrev pub HasNothingToRemove : List ℕ → Pointer → Type 0
HasNothingToRemove text P = LeadsNowhere text P ⊎ (P ≡ [])

abbrev pub IsRemoveFault : List ℕ → Pointer → ChangeFault → Type 0
IsRemoveFault text P (Text f) = IsTextFault text f
IsRemoveFault text P (Value f) = ⊥
IsRemoveFault text P NoTarget = HasNothingToRemove text P
IsRemoveFault text P (Memory m) = ⊤
