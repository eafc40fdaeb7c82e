-- Places of a text at which no lexeme is cut.
use Rattle.std.specs.Prelude.{◌≡◌, ◌⊎◌, ℕ, suc, ◌-◌, List, length, take, drop, true, false, cond, ◌||◌, ◌==◌, get_or, ◌∷◌}
use Rattle.json.specs.Word.{ends_word, is_space}
use Rattle.json.specs.Lex.{Lexeme, Mode, between, in_word, lex}
use Rattle.json_lexemes.specs.Lexing.{after, Outside}
use Rattle.json_lexemes.specs.Skipped.{one_less, depth_after}

-- the mode of the lexer at a place
abbrev pub mode_at : List ℕ → ℕ → Mode
mode_at t i = after between (take i t)

-- the lexemes from a place on
abbrev pub left_at : List ℕ → ℕ → List Lexeme
left_at t i = lex between (drop i t)

-- a lexeme may begin here, or a word has just ended, or the text has
abbrev pub IsEnd : List ℕ → ℕ → Type 0
IsEnd t i = (mode_at t i ≡ between) ⊎ (((mode_at t i ≡ in_word) × (ends_word (drop i t) ≡ true)) ⊎ (i ≡ length t))

-- how many brackets are open after a lexeme that begins with the byte c
abbrev pub depth_by : ℕ → ℕ → ℕ
depth_by n c = cond ((c == 123) || (c == 91)) (suc n) (cond ((c == 125) || (c == 93)) (one_less n) n)

-- passing over the lexeme at i leads to k
pub record Steps (t : List ℕ) (i k : ℕ) : Type 0 where
  pub first : Lexeme
  pub left : left_at t i ≡ first ∷ left_at t k
  pub opens : (n : ℕ) → depth_after n first ≡ depth_by n (get_or t i 0)

-- a string is left open at the end of the text
abbrev pub IsOpen : List ℕ → Type 0
IsOpen t = ¬ Outside (mode_at t (length t))

-- the string that ends at k is closed there, or else left open
abbrev pub Closes : List ℕ → ℕ → Type 0
Closes t k = ((mode_at t k ≡ between) × (get_or t (k - 1) 0 ≡ 34)) ⊎ ((k ≡ length t) × IsOpen t)

-- no whitespace stands before k, or else a string is left open
abbrev pub HasEnd : List ℕ → ℕ → Type 0
HasEnd t k = (is_space (get_or t (k - 1) 0) ≡ false) ⊎ IsOpen t
