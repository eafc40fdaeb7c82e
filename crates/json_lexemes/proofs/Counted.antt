-- An array has fewer elements than its text has bytes.
use Rattle.std.proofs.Common.{◌≡◌, ℕ, zero, suc, ◌<◌, ◌≤◌, List, [], ◌∷◌, ◌++◌, length, drop, Some, sym, ap, ◌∙◌, arith, append-nil, length-append, length-drop}
use Rattle.std.proofs.lemmas.Option.{none-some}
use Rattle.json.specs.Json.{Json, null, boolean, number, string, array, object, Items, no_items, item}
use Rattle.json.specs.Find.{get_item}
use Rattle.json.specs.Lex.{Lexeme, Class, quote, backslash, operator, space, other, class, Mode, between, in_word, in_string, in_escape, lex, lex_byte}
use Rattle.json_lexemes.specs.Places.{left_at}
use Rattle.json_lexemes.specs.Spelled.{spelled, first_elements, more_elements, Says}

byte_step : (m : Mode) (c : Class) (x : ℕ) (xs : List ℕ) → ((n : Mode) → length (lex n xs) ≤ length xs) → length (lex_byte m c x xs (λ n. lex n xs)) ≤ suc (length xs)
byte_step between quote x xs h = omega (arith, h in_string)
byte_step between backslash x xs h = omega (arith, h in_word)
byte_step between operator x xs h = omega (arith, h between)
byte_step between space x xs h = omega (arith, h between)
byte_step between other x xs h = omega (arith, h in_word)
byte_step in_word quote x xs h = omega (arith, h in_word)
byte_step in_word backslash x xs h = omega (arith, h in_word)
byte_step in_word operator x xs h = omega (arith, h between)
byte_step in_word space x xs h = omega (arith, h between)
byte_step in_word other x xs h = omega (arith, h in_word)
byte_step in_string quote x xs h = omega (arith, h between)
byte_step in_string backslash x xs h = omega (arith, h in_escape)
byte_step in_string operator x xs h = omega (arith, h in_string)
byte_step in_string space x xs h = omega (arith, h in_string)
byte_step in_string other x xs h = omega (arith, h in_string)
byte_step in_escape c x xs h = omega (arith, h in_string)

pub lexemes : (m : Mode) (xs : List ℕ) → length (lex m xs) ≤ length xs
unfolding lex
lexemes m [] = omega arith
lexemes m (x ∷ xs) = byte_step m (class x) x xs (λ n. lexemes n xs)

pub some_lexeme : (v : Json) → 0 < length (spelled v)
some_lexeme null = omega arith
some_lexeme (boolean b) = omega arith
some_lexeme (number s) = omega arith
some_lexeme (string s) = omega arith
some_lexeme (array js) = omega arith
some_lexeme (object ms) = omega arith

in_more : (n : ℕ) (js : Items) (v : Json) → get_item n js ≡ Some v → suc n < length (more_elements js)
in_more n no_items v e = absurd (none-some _ e)
in_more zero (item j js) v e = omega (arith, some_lexeme j, length-append (spelled j) (more_elements js))
in_more (suc n) (item j js) v e = omega (arith, in_more n js v e, length-append (spelled j) (more_elements js))

in_first : (n : ℕ) (js : Items) (v : Json) → get_item n js ≡ Some v → n < length (first_elements js)
in_first n no_items v e = absurd (none-some _ e)
in_first zero (item j js) v e = omega (arith, some_lexeme j, length-append (spelled j) (more_elements js))
in_first (suc n) (item j js) v e = omega (arith, in_more n js v e, length-append (spelled j) (more_elements js))

pub element_below : (text : List ℕ) (i n : ℕ) (js : Items) (v : Json) (ls : List Lexeme) → left_at text i ≡ spelled (array js) ++ ls → get_item n js ≡ Some v → n < length text
element_below text i n js v ls at e =
    let size : length (left_at text i) ≡ suc (length (first_elements js ++ ls)) = ap length at in
    omega (arith, size, lexemes between (drop i text), length-drop i text, length-append (first_elements js) ls, in_first n js v e)

pub element_within : (text : List ℕ) (n : ℕ) (js : Items) (v : Json) → Says text (array js) → get_item n js ≡ Some v → n < length text
element_within text n js v says e = element_below text 0 n js v [] (says ∙ sym (append-nil (spelled (array js)))) e
