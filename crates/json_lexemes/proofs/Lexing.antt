-- The lexer on a text in two parts.
use Rattle.std.proofs.Common.{◌≡◌, ℕ, List, [], ◌∷◌, ◌++◌, refl, ap, ap₂}
use Rattle.json.specs.Token.{Token}
use Rattle.json.specs.Text.{plain}
use Rattle.json.specs.Lex.{token, string_token, operator_lexeme, Class, quote, backslash, operator, space, other, class, Mode, between, in_word, in_string, in_escape, lex, lex_byte}
use Rattle.json_lexemes.specs.Lexing.{next_mode, after, Fits, Outside}
use Rattle.json_lexemes.proofs.Words.{word-append}
use Rattle.json_lexemes.proofs.Contents.{content-append}

closed : (m : Mode) (r : List ℕ) → Fits m r → Outside m
closed between r h = tt
closed in_word r h = tt
closed in_string r h = h
closed in_escape r h = h

lex_step : (m : Mode) (c : Class) (x : ℕ) (a r : List ℕ) → Fits (after (next_mode m c) a) r
    → lex (next_mode m c) (a ++ r) ≡ lex (next_mode m c) a ++ lex (after (next_mode m c) a) r
    → lex_byte m c x (a ++ r) (λ n. lex n (a ++ r)) ≡ lex_byte m c x a (λ n. lex n a) ++ lex (after (next_mode m c) a) r
lex_step between quote x a r h ih = ap₂ (λ o l. token (string_token o) ∷ l) (content-append plain a r (closed (after in_string a) r h)) ih
lex_step between backslash x a r h ih = ap (λ l. token Token.bad ∷ l) ih
lex_step between operator x a r h ih = ap (λ l. operator_lexeme x ∷ l) ih
lex_step between space x a r h ih = ih
lex_step between other x a r h ih = ap₂ (λ w l. token w ∷ l) (word-append x a r h) ih
lex_step in_word quote x a r h ih = ih
lex_step in_word backslash x a r h ih = ih
lex_step in_word operator x a r h ih = ap (λ l. operator_lexeme x ∷ l) ih
lex_step in_word space x a r h ih = ih
lex_step in_word other x a r h ih = ih
lex_step in_string quote x a r h ih = ih
lex_step in_string backslash x a r h ih = ih
lex_step in_string operator x a r h ih = ih
lex_step in_string space x a r h ih = ih
lex_step in_string other x a r h ih = ih
lex_step in_escape c x a r h ih = ih

pub lex-append : (m : Mode) (a r : List ℕ) → Fits (after m a) r → lex m (a ++ r) ≡ lex m a ++ lex (after m a) r
unfolding lex
lex-append m [] r h = refl
lex-append m (x ∷ a) r h = lex_step m (class x) x a r h (lex-append (next_mode m (class x)) a r h)
