-- Texts with no lexeme, and texts of one string.
use Rattle.std.proofs.Common.{◌≡◌, ◌⊎◌, inl, inr, ℕ, ◌+◌, ◌-◌, ◌<◌, ◌≤◌, Bool, true, false, cond, ◌==◌, List, [], ◌∷◌, length, drop, get_or, refl, sym, ap, ◌∙◌, arith, length-drop, get_or-drop}
use Rattle.std.proofs.lemmas.Bool.{false≢true, cases_lt}
use Rattle.std.proofs.lemmas.List.{drop_all}
use Rattle.json.specs.Json.{string}
use Rattle.json.specs.Token as t
use Rattle.json.specs.Word.{is_operator, is_space}
use Rattle.json.specs.Lex.{Lexeme, token, Class, quote, backslash, operator, space, other, class, between, in_string, in_escape, operator_lexeme, lex, lex_byte}
use Rattle.json_text.specs.Cuts.{IsWhitespace, closes}
use Rattle.json_lexemes.specs.Lexing.{after, next_mode, Outside}
use Rattle.json_lexemes.specs.Places.{left_at}
use Rattle.json_text.specs.Removed.{IsTightEnd}
use Rattle.json_text.specs.Rows.{IsSolid, closing}
use Rattle.json_lexemes.specs.Spelled.{Says}
use Rattle.json_lexemes.proofs.Closed.{closed-Says}
use Rattle.json_lexemes.proofs.FirstBytes.{kind, word_kind, operator_by_kind}
use Rattle.json_lexemes.proofs.Steps.{drop_step, operator_left}

no_cons : (l : Lexeme) (ls : List Lexeme) → l ∷ ls ≡ [] → ⊥
no_cons l ls e = absurd (omega (arith, ap length e))

is_gap : Class → Bool
is_gap quote = false
is_gap backslash = false
is_gap operator = false
is_gap space = true
is_gap other = false

gap_class : (a b c d : Bool) → is_gap (cond a quote (cond b backslash (cond c operator (cond d space other)))) ≡ true → d ≡ true
unfolding is_gap
gap_class true b c d e = absurd (false≢true e)
gap_class false true c d e = absurd (false≢true e)
gap_class false false true d e = absurd (false≢true e)
gap_class false false false true e = refl
gap_class false false false false e = absurd (false≢true e)

space_is : (x : ℕ) → is_gap (class x) ≡ true → is_space x ≡ true
space_is x e = gap_class (x == 34) (x == 92) (is_operator x) (is_space x) e

whitespace_step : (c : Class) (x : ℕ) (xs : List ℕ) → lex_byte between c x xs (λ n. lex n xs) ≡ [] → (is_gap c ≡ true) × (lex between xs ≡ []) × (next_mode between c ≡ between)
unfolding is_gap
whitespace_step quote x xs e = absurd (no_cons _ _ e)
whitespace_step backslash x xs e = absurd (no_cons _ _ e)
whitespace_step operator x xs e = absurd (no_cons _ _ e)
whitespace_step space x xs e = (refl, e, refl)
whitespace_step other x xs e = absurd (no_cons _ _ e)

pub whitespace_after : (s : List ℕ) → lex between s ≡ [] → after between s ≡ between
unfolding lex
whitespace_after [] e = refl
whitespace_after (x ∷ xs) e = let h = whitespace_step (class x) x xs e in ap (λ m. after m xs) h.2 ∙ whitespace_after xs h.1

pub is_whitespace : (s : List ℕ) → lex between s ≡ [] → IsWhitespace s
is_whitespace s e = (e, whitespace_after s e)

pub whitespace_first : (x : ℕ) (xs : List ℕ) → lex between (x ∷ xs) ≡ [] → is_space x ≡ true
unfolding lex
whitespace_first x xs e = space_is x (whitespace_step (class x) x xs e).0

pub whitespace_rest : (x : ℕ) (xs : List ℕ) → lex between (x ∷ xs) ≡ [] → lex between xs ≡ []
unfolding lex
whitespace_rest x xs e = (whitespace_step (class x) x xs e).1

pub whitespace_last : (x : ℕ) (xs : List ℕ) → lex between (x ∷ xs) ≡ [] → is_space (get_or (x ∷ xs) (length xs) 32) ≡ true
whitespace_last x [] e = whitespace_first x [] e
whitespace_last x (y ∷ xs) e = whitespace_last y xs (whitespace_rest x (y ∷ xs) e)

-- ---- a string

string_step : (c : Class) (x : ℕ) (xs : List ℕ) → lex_byte in_string c x xs (λ n. lex n xs) ≡ [] → Outside (after (next_mode in_string c) xs)
    → (lex between xs ≡ [] → after between xs ≡ between)
    → (lex in_string xs ≡ [] → Outside (after in_string xs) → after in_string xs ≡ between)
    → (lex in_escape xs ≡ [] → Outside (after in_escape xs) → after in_escape xs ≡ between)
    → after (next_mode in_string c) xs ≡ between
string_step quote x xs e o a b d = a e
string_step backslash x xs e o a b d = d e o
string_step operator x xs e o a b d = b e o
string_step space x xs e o a b d = b e o
string_step other x xs e o a b d = b e o

mutual
  unfolding lex

  string_after : (xs : List ℕ) → lex in_string xs ≡ [] → Outside (after in_string xs) → after in_string xs ≡ between
  string_after [] e o = absurd o
  string_after (x ∷ xs) e o = string_step (class x) x xs e o (λ i. whitespace_after xs i) (λ i p. string_after xs i p) (λ i p. escape_after xs i p)

  escape_after : (xs : List ℕ) → lex in_escape xs ≡ [] → Outside (after in_escape xs) → after in_escape xs ≡ between
  escape_after [] e o = absurd o
  escape_after (x ∷ xs) e o = string_after xs e o

unfoldable pub lexemes_behind : List Lexeme → List Lexeme
lexemes_behind [] = []
lexemes_behind (l ∷ ls) = ls

name_step : (c : Class) (x : ℕ) (xs : List ℕ) (k : List ℕ) → lex_byte between c x xs (λ n. lex n xs) ≡ token (t.string k) ∷ [] → Outside (after (next_mode between c) xs)
    → (lex between xs ≡ token (t.string k) ∷ [] → Outside (after between xs) → after between xs ≡ between) → after (next_mode between c) xs ≡ between
unfolding lexemes_behind
name_step quote x xs k e o ih = string_after xs (ap lexemes_behind e) o
name_step backslash x xs k e o ih = let never : 0 ≡ 34 = ap kind e in absurd (omega (arith, never))
name_step operator x xs k e o ih = whitespace_after xs (ap lexemes_behind e)
name_step space x xs k e o ih = ih e o
name_step other x xs k e o ih = let never : 0 ≡ 34 = sym (word_kind (x ∷ xs)) ∙ ap kind e in absurd (omega (arith, never))

name_after : (s k : List ℕ) → lex between s ≡ token (t.string k) ∷ [] → Outside (after between s) → after between s ≡ between
unfolding lex
name_after [] k e o = refl
name_after (x ∷ xs) k e o = name_step (class x) x xs k e o (λ i p. name_after xs k i p)

-- no lexeme is open behind a name
pub name_between : (s k : List ℕ) → Says s (string k) → after between s ≡ between
name_between s k says = name_after s k says (closed-Says s (string k) says)

-- ---- the bracket that closes

pub closing_is : (b : Bool) → closing b ≡ operator_lexeme (closes b)
closing_is true = refl
closing_is false = refl

pub closes_operator : (b : Bool) → is_operator (closes b) ≡ true
closes_operator true = refl
closes_operator false = refl

last_whitespace : (s : List ℕ) → lex between s ≡ [] → (s ≡ []) ⊎ (is_space (get_or s (length s - 1) 32) ≡ true)
last_whitespace [] e = inl refl
last_whitespace (x ∷ xs) e =
    let place : length xs ≡ length (x ∷ xs) - 1 = omega arith in
    inr (ap (λ n. is_space (get_or (x ∷ xs) n 32)) (sym place) ∙ whitespace_last x xs e)

-- it is the last byte of a text that doesn't end with whitespace
pub closing_last : (b : Bool) (t : List ℕ) (i : ℕ) → IsSolid t i → IsTightEnd t → left_at t i ≡ closing b ∷ [] → drop i t ≡ closes b ∷ []
unfolding lexemes_behind
closing_last b t i solid tight left =
    let at = operator_by_kind t i (closes b) [] solid (closes_operator b) (left ∙ ap (λ l. l ∷ []) (closing_is b)) in
    let step = operator_left t i (closes b) at.0 at.1 (closes_operator b) in
    let none : lex between (drop (i + 1) t) ≡ [] = ap lexemes_behind (sym step ∙ left) in
    drop_step t i at.0 ∙ ap (λ x. x ∷ drop (i + 1) t) at.1 ∙ ap (λ l. closes b ∷ l) (by_last at.0 (last_whitespace (drop (i + 1) t) none))
  where
    by_last : i < length t → (drop (i + 1) t ≡ []) ⊎ (is_space (get_or (drop (i + 1) t) (length (drop (i + 1) t) - 1) 32) ≡ true) → drop (i + 1) t ≡ []
    by_last h (inl e) = e
    by_last h (inr s) = by_size (cases_lt (i + 1) (length t)) s
      where
        by_size : (i + 1 < length t) ⊎ (length t ≤ i + 1) → is_space (get_or (drop (i + 1) t) (length (drop (i + 1) t) - 1) 32) ≡ true → drop (i + 1) t ≡ []
        by_size (inl m) s =
            let place : i + 1 + (length (drop (i + 1) t) - 1) ≡ length t - 1 = omega (arith, length-drop (i + 1) t, m) in
            let same : get_or (drop (i + 1) t) (length (drop (i + 1) t) - 1) 32 ≡ get_or t (length t - 1) 32 = get_or-drop (i + 1) t _ 32 ∙ ap (λ n. get_or t n 32) place in
            absurd (false≢true (sym tight ∙ ap is_space (sym same) ∙ s))
        by_size (inr m) s = drop_all (i + 1) t m
