-- What a check of a text against the grammar has passed over, and what must follow.
use Rattle.std.specs.Prelude.{◌≡◌, ◌≢◌, ◌≤◌, ◌+◌, length, ℕ, zero, suc, Bool, true, false, not, ◌||◌, ◌==◌, nat_lt, ◌<◌, List, [], ◌∷◌, ◌++◌, drop, get_or, Some}
use Rattle.std.specs.Char.{is_ascii_digit}
use Rattle.json.specs.Json.{Json, Items, Members}
use Rattle.json.specs.Token as t
use Rattle.json.specs.Text.{content, plain}
use Rattle.json.specs.Lex.{Lexeme, token, comma, colon}
use Rattle.json.specs.Scan.{test}
use Rattle.json.specs.Tree.{depth, items_depth, members_depth}
use Rattle.json_lexemes.specs.Places.{left_at}
use Rattle.json_lexemes.specs.Spelled.{spelled, more_elements, more_members}

-- ---- runs of bytes, and strings

-- a byte that doesn't stand for itself in a string: a quote, a backslash or a control byte
abbrev pub is_stop : ℕ → Bool
is_stop x = (x == 34) || (x == 92) || nat_lt x 32

-- a byte at which a run of digits ends
abbrev pub is_no_digit : ℕ → Bool
is_no_digit x = not (is_ascii_digit x)

-- no byte from `from` to i passes p
abbrev pub IsFree : (ℕ → Bool) → List ℕ → ℕ → ℕ → Type 0
IsFree p t from i = (k : ℕ) → from ≤ k → k < i → p (get_or t k 0) ≡ false

-- of the 64 bytes from `base` on the bits tell which are such; if none is set, nothing is known
abbrev pub AreStops : List ℕ → ℕ → ℕ → Type 0
AreStops t base bits = bits ≢ 0 → (base + 64 ≤ length t) × ((i : ℕ) → i < 64 → test bits i ≡ is_stop (get_or t (base + i) 0))

-- from i on stands the inside of a string, and the quote that closes it
abbrev pub HasContent : List ℕ → ℕ → Type 0
HasContent t i = (s : List ℕ) × (content plain (drop i t) ≡ Some s)

-- ---- values

-- from i to k stands a value, of at most n levels
abbrev pub Spells : List ℕ → ℕ → ℕ → ℕ → Type 0
Spells t n i k = (j : Json) × (left_at t i ≡ spelled j ++ left_at t k) × (depth j ≤ n)

-- the brackets of an object, or of an array

abbrev pub opening : Bool → Lexeme
opening true = token t.begin_object
opening false = token t.begin_array

abbrev pub closing : Bool → Lexeme
closing true = token t.end_object
closing false = token t.end_array

-- in an object a name stands before the value, in an array none
abbrev pub Named : Bool → List Lexeme → List Lexeme → Type 0
Named true ls rest = (s : List ℕ) × (ls ≡ token (t.string s) ∷ colon ∷ rest)
Named false ls rest = ls ≡ rest

-- the value at i opens with such a bracket, and the first value in it begins at k
abbrev pub Opens : List ℕ → Bool → ℕ → ℕ → Type 0
Opens t object i k = (ls : List Lexeme) × (left_at t i ≡ opening object ∷ ls) × Named object ls (left_at t k)

-- a comma is left at i, and the value behind it begins at k
abbrev pub Continues : List ℕ → Bool → ℕ → ℕ → Type 0
Continues t object i k = (ls : List Lexeme) × (left_at t i ≡ comma ∷ ls) × Named object ls (left_at t k)

-- what is left of an object, or of an array, behind one of its values: more of them, of at most n levels
abbrev pub Remains : Bool → ℕ → List Lexeme → List Lexeme → Type 0
Remains true n ls rest = (ms : Members) × (ls ≡ more_members ms ++ rest) × (members_depth ms ≤ n)
Remains false n ls rest = (js : Items) × (ls ≡ more_elements js ++ rest) × (items_depth js ≤ n)

-- Behind a value the brackets that are open are all closed, and nothing follows. Of each, the innermost first, it is known whether it is an object's; n more may open within it.
abbrev pub Completes : ℕ → List Bool → List Lexeme → Type 0
Completes n [] ls = ls ≡ []
Completes n (object ∷ os) ls = (rest : List Lexeme) × Remains object n ls rest × Completes (suc n) os rest

-- the same from the beginning of a value on
abbrev pub Begins : ℕ → List Bool → List Lexeme → Type 0
Begins n os ls = (j : Json) × (rest : List Lexeme) × (ls ≡ spelled j ++ rest) × (depth j ≤ n) × Completes n os rest

-- of the first so many of these, the last one first
abbrev pub innermost : List Bool → ℕ → List Bool
innermost os zero = []
innermost os (suc d) = get_or os d false ∷ innermost os d
