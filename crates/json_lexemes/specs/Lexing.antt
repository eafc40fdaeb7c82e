-- The lexer on a text in two parts.
use Rattle.std.specs.Prelude.{◌≡◌, ℕ, Bool, List, [], ◌∷◌, true, false, ⊤}
use Rattle.json.specs.Lex.{Class, quote, backslash, operator, space, other, class, Mode, between, in_word, in_string, in_escape}
use Rattle.json.specs.Word.{ends_word}

-- the mode after a byte of this class
abbrev pub next_mode : Mode → Class → Mode
next_mode between quote = in_string
next_mode between backslash = in_word
next_mode between operator = between
next_mode between space = between
next_mode between other = in_word
next_mode in_word quote = in_word
next_mode in_word backslash = in_word
next_mode in_word operator = between
next_mode in_word space = between
next_mode in_word other = in_word
next_mode in_string quote = between
next_mode in_string backslash = in_escape
next_mode in_string operator = in_string
next_mode in_string space = in_string
next_mode in_string other = in_string
next_mode in_escape c = in_string

-- the mode after a text
abbrev pub after : Mode → List ℕ → Mode
after m [] = m
after m (x ∷ xs) = after (next_mode m (class x)) xs

-- no string is left open
abbrev pub Outside : Mode → Type 0
Outside between = ⊤
Outside in_word = ⊤
Outside in_string = ⊥
Outside in_escape = ⊥

-- no string is left open, and where a word is, what follows ends it
abbrev pub Fits : Mode → List ℕ → Type 0
Fits between r = ⊤
Fits in_word r = ends_word r ≡ true
Fits in_string r = ⊥
Fits in_escape r = ⊥

-- whether the lexer goes on as between lexemes
abbrev pub restarts : Mode → List ℕ → Bool
restarts between r = true
restarts in_word r = ends_word r
restarts in_string r = false
restarts in_escape r = false
