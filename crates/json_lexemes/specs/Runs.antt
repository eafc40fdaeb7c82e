-- Passing over bytes that open and close no bracket.
use Rattle.std.specs.Prelude.{◌≡◌, ◌⊎◌, ℕ, suc, ◌-◌, ◌<◌, Bool, true, false, not, nat_lt, ◌&&◌, ◌||◌, ◌==◌, List, drop, get_or}
use Rattle.json.specs.Lex.{Lexeme, Class, quote, backslash, operator, space, other, class, Mode, between, in_word, in_string, in_escape, lex}
use Rattle.json_lexemes.specs.Places.{mode_at, left_at, IsEnd}
use Rattle.json_lexemes.specs.Skipped.{most_open, skip}

abbrev pub is_bracket : ℕ → Bool
is_bracket x = (x == 123) || (x == 125) || (x == 91) || (x == 93)

abbrev pub is_quote : ℕ → Bool
is_quote x = x == 34

-- a quote or a bracket
abbrev pub is_mark : ℕ → Bool
is_mark x = is_bracket x || is_quote x

-- no quote and no bracket
abbrev pub is_flat : ℕ → Bool
is_flat x = not (is_mark x)

-- a word goes on behind a byte of this class, outside of strings and a quote aside
abbrev pub of_word : Class → Bool
of_word quote = false
of_word backslash = true
of_word operator = false
of_word space = false
of_word other = true

abbrev pub is_of_word : ℕ → Bool
is_of_word x = of_word (class x)

-- a word goes on at k, of a run of flat bytes that began at `from`
abbrev pub goes_on : List ℕ → ℕ → ℕ → Bool
goes_on t from k = nat_lt from k && is_of_word (get_or t (k - 1) 0)

abbrev pub mode_of : Bool → Mode
mode_of true = in_word
mode_of false = between

abbrev pub run_mode : List ℕ → ℕ → ℕ → Mode
run_mode t from k = mode_of (goes_on t from k)

abbrev pub string_mode : Bool → Mode
string_mode true = in_escape
string_mode false = in_string

-- what is left in a is in b, but for lexemes that open and close nothing
pub record Passes (a b : List Lexeme) : Type 0 where
  pub most : (n : ℕ) → most_open n a ≡ most_open n b
  pub skips : (n : ℕ) → skip (suc n) a ≡ skip (suc n) b

-- only flat bytes stand from `from` to k
pub record InRun (t : List ℕ) (from k : ℕ) : Type 0 where
  pub passes : Passes (left_at t from) (lex (run_mode t from k) (drop k t))
  pub mode : IsEnd t from → (k ≡ from) ⊎ (mode_at t k ≡ run_mode t from k)

-- no quote stands from `from`, in a string, to k: its byte k may be escaped
pub record InString (t : List ℕ) (from k : ℕ) : Type 0 where
  pub escaped : Bool
  pub left : lex (string_mode escaped) (drop k t) ≡ lex in_string (drop from t)
  pub mode : mode_at t from ≡ in_string → mode_at t k ≡ string_mode escaped
  pub behind : escaped ≡ true → (from < k) × (get_or t (k - 1) 0 ≡ 92)
