-- The lexer and the count of brackets along a block of bytes, and the same by masks, of which bit i is the block's byte i.
use Rattle.std.specs.Prelude.{◌≡◌, ◌<◌, ◌≤◌, ◌+◌, ◌-◌, ℕ, zero, suc, Bool, true, false, cond, ◌&&◌, ◌||◌, ◌==◌, List, get_or}
use Rattle.json.specs.Lex.{class, Mode, between, in_word, in_string, in_escape}
use Rattle.json.specs.Scan.{test}
use Rattle.json_lexemes.specs.Lexing.{next_mode}
use Rattle.json_lexemes.specs.Skipped.{one_less}
use Rattle.json_lexemes.specs.Places.{depth_by}
use Rattle.json_lexemes.specs.Runs.{is_of_word, mode_of, string_mode}

abbrev pub is_opening : ℕ → Bool
is_opening x = (x == 123) || (x == 91)

abbrev pub is_closing : ℕ → Bool
is_closing x = (x == 125) || (x == 93)

abbrev pub is_string_mark : ℕ → Bool
is_string_mark x = (x == 34) || (x == 92)

-- no string is open
abbrev pub is_outside : Mode → Bool
is_outside between = true
is_outside in_word = true
is_outside in_string = false
is_outside in_escape = false

-- the mode i bytes behind `at`, of m there
unfoldable pub mode_along : List ℕ → ℕ → Mode → ℕ → Mode
mode_along t at m zero = m
mode_along t at m (suc i) = next_mode (mode_along t at m i) (class (get_or t (at + i) 0))

-- how many brackets are open there, of n at `at`
unfoldable pub open_along : List ℕ → ℕ → Mode → ℕ → ℕ → ℕ
open_along t at m n zero = n
open_along t at m n (suc i) = cond (is_outside (mode_along t at m i)) (depth_by (open_along t at m n i) (get_or t (at + i) 0)) (open_along t at m n i)

-- whether a string is open, and whether its next byte is escaped; outside of strings a word goes on or none does
abbrev pub mode_by : Bool → Bool → Bool → Mode
mode_by true escaped word = string_mode escaped
mode_by false escaped word = mode_of word

-- the mode at a place, by what masks carry there and the byte before it
abbrev pub carried : List ℕ → ℕ → Bool → Bool → Mode
carried t at inside escaped = mode_by inside escaped (is_of_word (get_or t (at - 1) 0))

-- the brackets of the block at `at` outside of strings, of mode m there
pub record HasBrackets (t : List ℕ) (at : ℕ) (m : Mode) (opens shuts : ℕ) : Type 0 where
  pub opening : (i : ℕ) → i < 64 → test opens i ≡ (is_opening (get_or t (at + i) 0) && is_outside (mode_along t at m i))
  pub closing : (i : ℕ) → i < 64 → test shuts i ≡ (is_closing (get_or t (at + i) 0) && is_outside (mode_along t at m i))

-- how many brackets are open i bits up, of n before
unfoldable pub open_by : ℕ → ℕ → ℕ → ℕ → ℕ
open_by opens shuts n zero = n
open_by opens shuts n (suc i) = cond (test opens i) (suc (open_by opens shuts n i)) (cond (test shuts i) (one_less (open_by opens shuts n i)) (open_by opens shuts n i))

-- one is open all along
abbrev pub StaysOpen : ℕ → ℕ → ℕ → ℕ → Type 0
StaysOpen opens shuts n i = (j : ℕ) → j ≤ i → 0 < open_by opens shuts n j
