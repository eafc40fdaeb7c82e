-- A member or an element by its parts, and the text of a row of them.
use Rattle.std.specs.Prelude.{◌≡◌, ◌≢◌, ◌<◌, ◌≤◌, ℕ, List, [], ◌∷◌, ◌++◌, length, drop, Bool, true, false, MatchOption, IfSome, ⊤}
use Rattle.std.specs.Str.{IsCharBoundary}
use Rattle.json.specs.Json.{Json, string}
use Rattle.json.specs.Lex.{between, colon, lex}
use Rattle.json_lexemes.specs.Lexing.{after}
use Rattle.json_text.specs.Listing.{IsTextOf}
use Rattle.json_lexemes.specs.Places.{left_at, mode_at}
use Rattle.json_text.specs.Pointed.{IsTight}
use Rattle.json_text.specs.Rows.{Child, inside}
use Rattle.json_lexemes.specs.Spelled.{Says}
use Rattle.json_text.specs.declared.cuts.Cut.{Cut}

-- a member's parts, or an element's, which has no name and no colon
pub record Piece : Type 0 where
  pub whitespace : List ℕ
  pub name : List ℕ
  pub colons : List ℕ
  pub value : List ℕ
  pub trail : List ℕ

abbrev pub piece_text : Piece → List ℕ
piece_text p = p.whitespace ++ (p.name ++ (p.colons ++ (p.value ++ p.trail)))

-- each behind a comma, but the first behind the byte x
abbrev pub pieces_text : ℕ → List Piece → List ℕ
pieces_text x [] = []
pieces_text x (p ∷ ps) = x ∷ (piece_text p ++ pieces_text 44 ps)

-- ---- b says that these are members

abbrev pub opens : Bool → ℕ
opens true = 123
opens false = 91

abbrev pub closes : Bool → ℕ
closes true = 125
closes false = 93

-- in brackets; where there are none, with this whitespace
abbrev pub row_text : Bool → List ℕ → List Piece → List ℕ
row_text b hollow [] = opens b ∷ (hollow ++ (closes b ∷ []))
row_text b hollow (p ∷ ps) = pieces_text (opens b) (p ∷ ps) ++ (closes b ∷ [])

-- ---- the parts fit together

-- nothing but whitespace
abbrev pub IsWhitespace : List ℕ → Type 0
IsWhitespace s = (lex between s ≡ []) × (after between s ≡ between)

-- the name k as it is written, and a colon; nothing for an element
abbrev pub IsLabel : Bool → List ℕ → List ℕ → List ℕ → Type 0
IsLabel true k name colons = IsTextOf name (string k) × (after between name ≡ between) × (lex between colons ≡ colon ∷ []) × (after between colons ≡ between)
IsLabel false k name colons = (name ≡ []) × (colons ≡ [])

-- p is the text of the child c
pub record Suits (b : Bool) (c : Child) (p : Piece) : Type 0 where
  pub whitespace : IsWhitespace p.whitespace
  pub label : IsLabel b c.0 p.name p.colons
  pub value : IsTextOf p.value c.1
  pub trail : IsWhitespace p.trail

abbrev pub AllSuit : Bool → List Child → List Piece → Type 0
AllSuit b [] [] = ⊤
AllSuit b [] (p ∷ ps) = ⊥
AllSuit b (c ∷ cs) [] = ⊥
AllSuit b (c ∷ cs) (p ∷ ps) = Suits b c p × AllSuit b cs ps

-- ---- cut from a text

abbrev pub piece_of : Cut → Piece
piece_of c = record { whitespace = c.whitespace.now; name = c.name.now; colons = c.colons.now; value = c.value.now; trail = c.trail.now }

-- the whitespace of the first of these children begins at from, and the cut has its parts
pub record CutsFirst (t : List ℕ) (b : Bool) (cs : List Child) (from : ℕ) (c : Cut) : Type 0 where
  pub child : Child
  pub more : List Child
  pub is : cs ≡ child ∷ more
  pub suits : Suits b child (piece_of c)
  pub next : MatchOption c.next ((more ≡ []) × (drop from t ≡ piece_text (piece_of c) ++ (closes b ∷ [])))
      (λ g. (drop from t ≡ piece_text (piece_of c) ++ (44 ∷ drop g t)) × (left_at t g ≡ inside b more) × (mode_at t g ≡ between) × (more ≢ []))

abbrev pub GoesOn : List ℕ → ℕ → Cut → Type 0
GoesOn t from c = IfSome c.next (λ g. (from < g) × (g ≤ length t) × IsCharBoundary t g)

-- from is right behind a bracket or a comma, before these children
abbrev pub IsBehindMark : List ℕ → Bool → List Child → ℕ → Type 0
IsBehindMark t b cs from = ((j : Json) × Says t j) × IsTight t × (left_at t from ≡ inside b cs) × (mode_at t from ≡ between)

-- nothing but this whitespace stands there, and the closing bracket
abbrev pub ClosesAt : List ℕ → Bool → ℕ → List ℕ → Type 0
ClosesAt t b from whitespace = (drop from t ≡ whitespace ++ (closes b ∷ [])) × IsWhitespace whitespace
