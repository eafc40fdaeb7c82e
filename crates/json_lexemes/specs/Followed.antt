-- What a check has passed of each object and array that it follows.
use Rattle.std.specs.Prelude.{◌≡◌, ◌<◌, ◌≤◌, ◌+◌, ◌-◌, ◌++◌, ℕ, suc, true, List, length, get_or}
use Rattle.json.specs.Json.{Json, Items, item}
use Rattle.json.specs.Lex.{Lexeme, between}
use Rattle.json_lexemes.specs.Blocks.{is_closing}
use Rattle.json_lexemes.specs.Found.{later}
use Rattle.json_lexemes.specs.Signposts.{AreSignposts}
use Rattle.json_lexemes.specs.Places.{left_at, mode_at, IsEnd}
use Rattle.json_lexemes.specs.Skipped.{if_open, skip}
use Rattle.json_lexemes.specs.Spelled.{first_elements, more_elements}
use Rattle.json_lexemes.specs.declared.signposts.Signposts.{Signposts}
use Rattle.json_lexemes.specs.declared.signposts.Open.{Open}

-- what is open ends before `rest`, and its value on which the check is before `now`
pub record Follows (t : List ℕ) (o : Open) (i : ℕ) (now rest : List Lexeme) : Type 0 where
  pub on : o.start < i
  pub begins : IsEnd t o.start
  pub few : o.number ≤ i
  pub kept : o.kept ≤ i
  pub value : skip 0 (left_at t o.start) ≡ rest
  pub elements : get_or t o.start 0 ≡ 91 → (j : Json) (js : Items) (ls : List Lexeme) → left_at t (o.start + 1) ≡ first_elements (item j js) ++ ls → now ≡ more_elements (later o.number js) ++ ls

-- of those that are open, n within another
abbrev pub Ahead : List ℕ → ℕ → ℕ → Open → Type 0
Ahead t i n o = Follows t o i (skip n (left_at t i)) (skip (suc n) (left_at t i))

abbrev pub Behind : List ℕ → ℕ → ℕ → Open → Type 0
Behind t i n o = Follows t o i (if_open n (left_at t i) (skip n (left_at t i))) (skip (suc n) (left_at t i))

-- d are open at i, of which those that are followed are as R says
pub record Tracks (R : ℕ → Open → Type 0) (t : List ℕ) (x : Signposts) (d : ℕ) : Type 0 where
  pub few : x.depth ≤ d
  pub room : x.depth ≤ 128
  pub size : length x.nest ≡ 128
  pub signposts : AreSignposts t x
  pub each : (e : ℕ) (o : Open) → e < x.depth → R (d - suc e) (get_or x.nest e o)

-- a value is to come from i on
abbrev pub IsAhead : List ℕ → Signposts → ℕ → ℕ → Type 0
IsAhead t x d i = Tracks (Ahead t i) t x d

-- a value ends at i
abbrev pub IsBehind : List ℕ → Signposts → ℕ → ℕ → Type 0
IsBehind t x d i = Tracks (Behind t i) t x d

-- a comma of an array stands before i
pub record IsBehindComma (t : List ℕ) (i : ℕ) : Type 0 where
  pub comma : get_or t (i - 1) 0 ≡ 44
  pub begins : mode_at t i ≡ between

-- a closing bracket stands before i
pub record IsBehindBracket (t : List ℕ) (i : ℕ) : Type 0 where
  pub bracket : is_closing (get_or t (i - 1) 0) ≡ true
  pub begins : mode_at t i ≡ between
