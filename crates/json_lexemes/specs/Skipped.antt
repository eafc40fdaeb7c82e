-- Passing over a value by counting brackets.
use Rattle.std.specs.Prelude.{ℕ, zero, suc, max, List, [], ◌∷◌}
use Rattle.json.specs.Token as t
use Rattle.json.specs.Lex.{Lexeme, token, comma, colon, between, lex}

abbrev pub one_less : ℕ → ℕ
one_less zero = zero
one_less (suc n) = n

-- how many brackets are open after a token, of n before it
abbrev pub open_after : ℕ → t.Token → ℕ
open_after n t.begin_object = suc n
open_after n t.end_object = one_less n
open_after n t.begin_array = suc n
open_after n t.end_array = one_less n
open_after n (t.key s) = n
open_after n (t.string s) = n
open_after n (t.number s) = n
open_after n (t.boolean b) = n
open_after n t.null = n
open_after n t.bad = n

abbrev pub depth_after : ℕ → Lexeme → ℕ
depth_after n (token t) = open_after n t
depth_after n comma = n
depth_after n colon = n

-- how many brackets are open at once, at the most, of n that are open before
unfoldable pub most_open : ℕ → List Lexeme → ℕ
most_open n [] = n
most_open n (l ∷ ls) = max n (most_open (depth_after n l) ls)

-- how many brackets of the text are open at once, at the most
abbrev pub nesting : List ℕ → ℕ
nesting text = most_open 0 (lex between text)

abbrev pub if_open : ℕ → List Lexeme → List Lexeme → List Lexeme
if_open zero ls more = ls
if_open (suc m) ls more = more

-- what is left once no bracket is open, of n that are: at least one lexeme is passed
unfoldable pub skip : ℕ → List Lexeme → List Lexeme
skip n [] = []
skip n (l ∷ ls) = if_open (depth_after n l) ls (skip (depth_after n l) ls)
