-- The lexer, a byte at a time.
use Rattle.std.proofs.Common.{◌≡◌, ℕ, suc, ◌+◌, ◌-◌, ◌<◌, ◌≤◌, Bool, true, false, cond, ◌&&◌, ◌||◌, ◌==◌, List, [], ◌∷◌, ◌++◌, length, take, drop, get_or, inl, inr, ◌⊎◌, refl, sym, ap, ap₂, ◌∙◌, subst, arith}
use Rattle.std.proofs.lemmas.List.{drop_all}
use Rattle.json.proofs.Printed.Numbers.{in_word-ended}
use Rattle.std.proofs.Math.Seq.{drop-cons, take-suc}
use Rattle.std.proofs.lemmas.Bool.{true≢false, false≢true, eqb-true, ne_eqb, or_cases, cases_Bool}
use Rattle.std.specs.Prelude.{Option, Some, None, max, nat_eq}
use Rattle.json.specs.Token.{Token, boolean, null, bad}
use Rattle.json.specs.Text.{content, plain}
use Rattle.std.specs.List.{starts_with}
use Rattle.json.specs.Word.{head, is_operator, is_space, ends_word, after_number, number_before, literal, word}
use Rattle.json.specs.Lex.{Lexeme, token, comma, colon, string_token, operator_lexeme, Class, quote, backslash, operator, space, other, class, Mode, between, in_word, in_string, in_escape, lex, lex_byte}
use Rattle.json_lexemes.specs.Lexing.{next_mode, after, Outside}
use Rattle.json_lexemes.specs.Skipped.{open_after, depth_after, most_open, if_open, skip}
use Rattle.json_lexemes.specs.Places.{mode_at, left_at, depth_by, Closes, HasEnd, IsEnd, Steps}

-- ---- one byte more

pub after-append : (m : Mode) (a b : List ℕ) → after m (a ++ b) ≡ after (after m a) b
after-append m [] b = refl
after-append m (x ∷ a) b = after-append (next_mode m (class x)) a b

pub mode_step : (t : List ℕ) (i : ℕ) → i < length t → mode_at t (i + 1) ≡ next_mode (mode_at t i) (class (get_or t i 0))
mode_step t i h =
    let e : i + 1 ≡ suc i = omega arith in
    ap (mode_at t) e ∙ ap (after between) (take-suc t i 0 h) ∙ after-append between (take i t) (get_or t i 0 ∷ [])

pub drop_step : (t : List ℕ) (i : ℕ) → i < length t → drop i t ≡ get_or t i 0 ∷ drop (i + 1) t
drop_step t i h =
    let e : suc i ≡ i + 1 = omega arith in
    drop-cons t i 0 h ∙ ap (λ k. get_or t i 0 ∷ drop k t) e

-- ---- classes

pub space_class : (x : ℕ) → is_space x ≡ true → class x ≡ space
space_class x h = go (or_cases _ _ h)
  where
    two : ((x == 32) ≡ true) ⊎ ((x == 9) ≡ true) → class x ≡ space
    two (inl e) = ap class (eqb-true x 32 e)
    two (inr e) = ap class (eqb-true x 9 e)

    three : (((x == 32) || (x == 9)) ≡ true) ⊎ ((x == 10) ≡ true) → class x ≡ space
    three (inl e) = two (or_cases _ _ e)
    three (inr e) = ap class (eqb-true x 10 e)

    go : (((x == 32) || (x == 9) || (x == 10)) ≡ true) ⊎ ((x == 13) ≡ true) → class x ≡ space
    go (inl e) = three (or_cases _ _ e)
    go (inr e) = ap class (eqb-true x 13 e)

-- what is of an operator is of each
pub each_operator : (P : ℕ → Type 0) → P 123 → P 125 → P 91 → P 93 → P 58 → P 44 → (x : ℕ) → is_operator x ≡ true → P x
each_operator P a b c d e f x h = g5 (or_cases _ _ h)
  where
    at : (y : ℕ) → (x == y) ≡ true → P y → P x
    at y i p = subst P (sym (eqb-true x y i)) p

    g2 : ((x == 123) ≡ true) ⊎ ((x == 125) ≡ true) → P x
    g2 (inl i) = at 123 i a
    g2 (inr i) = at 125 i b

    g3 : (((x == 123) || (x == 125)) ≡ true) ⊎ ((x == 91) ≡ true) → P x
    g3 (inl i) = g2 (or_cases _ _ i)
    g3 (inr i) = at 91 i c

    g4 : (((x == 123) || (x == 125) || (x == 91)) ≡ true) ⊎ ((x == 93) ≡ true) → P x
    g4 (inl i) = g3 (or_cases _ _ i)
    g4 (inr i) = at 93 i d

    g4b : (((x == 123) || (x == 125) || (x == 91) || (x == 93)) ≡ true) ⊎ ((x == 58) ≡ true) → P x
    g4b (inl i) = g4 (or_cases _ _ i)
    g4b (inr i) = at 58 i e

    g5 : (((x == 123) || (x == 125) || (x == 91) || (x == 93) || (x == 58)) ≡ true) ⊎ ((x == 44) ≡ true) → P x
    g5 (inl i) = g4b (or_cases _ _ i)
    g5 (inr i) = at 44 i f

-- ---- whitespace

pub whitespace_left : (t : List ℕ) (i : ℕ) → i < length t → is_space (get_or t i 0) ≡ true → left_at t (i + 1) ≡ left_at t i
unfolding lex
whitespace_left t i h s =
    sym (ap (lex between) (drop_step t i h) ∙ ap (λ c. lex_byte between c (get_or t i 0) (drop (i + 1) t) (λ m. lex m (drop (i + 1) t))) (space_class (get_or t i 0) s))

whitespace_mode : (m : Mode) (c : Class) → c ≡ space → ((m ≡ between) ⊎ (m ≡ in_word)) → next_mode m c ≡ between
whitespace_mode m c e (inl f) = ap₂ next_mode f e
whitespace_mode m c e (inr f) = ap₂ next_mode f e

pub end_modes : (t : List ℕ) (i : ℕ) → i < length t → IsEnd t i → (mode_at t i ≡ between) ⊎ (mode_at t i ≡ in_word)
end_modes t i h (inl e) = inl e
end_modes t i h (inr (inl e)) = inr e.0
end_modes t i h (inr (inr e)) = let never : ⊥ = omega arith in absurd never

pub whitespace_end : (t : List ℕ) (i : ℕ) → i < length t → is_space (get_or t i 0) ≡ true → IsEnd t i → IsEnd t (i + 1)
whitespace_end t i h s e = inl (mode_step t i h ∙ whitespace_mode (mode_at t i) _ (space_class (get_or t i 0) s) (end_modes t i h e))

pub whitespace_between : (t : List ℕ) (i : ℕ) → i < length t → is_space (get_or t i 0) ≡ true → mode_at t i ≡ between → mode_at t (i + 1) ≡ between
whitespace_between t i h s e = mode_step t i h ∙ whitespace_mode (mode_at t i) _ (space_class (get_or t i 0) s) (inl e)

-- ---- strings

pub string_closes : (t : List ℕ) (i : ℕ) → i < length t → get_or t i 0 ≡ 34 → lex in_string (drop i t) ≡ left_at t (i + 1)
unfolding lex
string_closes t i h e = ap (lex in_string) (drop_step t i h ∙ ap (λ x. x ∷ drop (i + 1) t) e)

pub string_escapes : (t : List ℕ) (i : ℕ) → i < length t → get_or t i 0 ≡ 92 → lex in_string (drop i t) ≡ lex in_escape (drop (i + 1) t)
unfolding lex
string_escapes t i h e = ap (lex in_string) (drop_step t i h ∙ ap (λ x. x ∷ drop (i + 1) t) e)

pub escape_passes : (t : List ℕ) (i : ℕ) → i < length t → lex in_escape (drop i t) ≡ lex in_string (drop (i + 1) t)
unfolding lex
escape_passes t i h = ap (lex in_escape) (drop_step t i h)

pub at_end : (m n : Mode) (t : List ℕ) (i : ℕ) → length t ≤ i → lex m (drop i t) ≡ lex n (drop i t)
unfolding lex
at_end m n t i h = ap (lex m) (drop_all i t h) ∙ sym (ap (lex n) (drop_all i t h))

plain_byte : (o s : Bool) (x : ℕ) (xs : List ℕ) → lex_byte in_string (cond o operator (cond s space other)) x xs (λ m. lex m xs) ≡ lex in_string xs
plain_byte true s x xs = refl
plain_byte false true x xs = refl
plain_byte false false x xs = refl

plain_mode : (o s : Bool) → next_mode in_string (cond o operator (cond s space other)) ≡ in_string
plain_mode true s = refl
plain_mode false true = refl
plain_mode false false = refl

pub string_passes : (t : List ℕ) (i : ℕ) → i < length t → (get_or t i 0 ≡ 34 → ⊥) → (get_or t i 0 ≡ 92 → ⊥) → lex in_string (drop i t) ≡ lex in_string (drop (i + 1) t)
unfolding lex
string_passes t i h q b =
    let x = get_or t i 0 in
    let xs = drop (i + 1) t in
    ap (lex in_string) (drop_step t i h)
    ∙ ap₂ (λ v w. lex_byte in_string (cond v quote (cond w backslash (cond (is_operator x) operator (cond (is_space x) space other)))) x xs (λ m. lex m xs)) (ne_eqb x 34 q) (ne_eqb x 92 b)
    ∙ plain_byte (is_operator x) (is_space x) x xs

pub string_mode : (t : List ℕ) (i : ℕ) → i < length t → (get_or t i 0 ≡ 34 → ⊥) → (get_or t i 0 ≡ 92 → ⊥) → mode_at t i ≡ in_string → mode_at t (i + 1) ≡ in_string
string_mode t i h q b m =
    let x = get_or t i 0 in
    mode_step t i h ∙ ap (λ n. next_mode n (class x)) m
    ∙ ap₂ (λ v w. next_mode in_string (cond v quote (cond w backslash (cond (is_operator x) operator (cond (is_space x) space other))))) (ne_eqb x 34 q) (ne_eqb x 92 b)
    ∙ plain_mode (is_operator x) (is_space x)

pub quote_mode : (t : List ℕ) (i : ℕ) → i < length t → get_or t i 0 ≡ 34 → mode_at t i ≡ in_string → mode_at t (i + 1) ≡ between
quote_mode t i h e m = mode_step t i h ∙ ap₂ (λ n x. next_mode n (class x)) m e

pub escaped : (t : List ℕ) (i : ℕ) → i + 1 < length t → get_or t i 0 ≡ 92 → lex in_string (drop i t) ≡ lex in_string (drop (i + 2) t)
escaped t i h e =
    let two : i + 1 + 1 ≡ i + 2 = omega arith in
    string_escapes t i (omega arith) e ∙ escape_passes t (i + 1) h ∙ ap (λ k. lex in_string (drop k t)) two

pub escape_mode : (t : List ℕ) (i : ℕ) → i + 1 < length t → get_or t i 0 ≡ 92 → mode_at t i ≡ in_string → mode_at t (i + 2) ≡ in_string
escape_mode t i h e m =
    let two : i + 2 ≡ i + 1 + 1 = omega arith in
    ap (mode_at t) two
    ∙ mode_step t (i + 1) h ∙ ap (λ n. next_mode n (class (get_or t (i + 1) 0))) (mode_step t i (omega arith) ∙ ap₂ (λ n x. next_mode n (class x)) m e)

-- a backslash at the end
pub escape_last : (t : List ℕ) (i : ℕ) → i < length t → length t - i < 2 → get_or t i 0 ≡ 92 → lex in_string (drop i t) ≡ left_at t (length t)
escape_last t i h two e =
    let k : i + 1 ≡ length t = omega arith in
    string_escapes t i h e ∙ ap (λ j. lex in_escape (drop j t)) k ∙ at_end in_escape between t (length t) (omega arith)

-- ---- words

or_false : (a b : Bool) → (a || b) ≡ false → (a ≡ false) × (b ≡ false)
or_false true b h = absurd (true≢false h)
or_false false b h = (refl, h)

word_byte : (q b : Bool) (x : ℕ) (xs : List ℕ) → lex_byte in_word (cond q quote (cond b backslash other)) x xs (λ m. lex m xs) ≡ lex in_word xs
word_byte true b x xs = refl
word_byte false true x xs = refl
word_byte false false x xs = refl

-- of a byte that ends no word
pub other_class : (x : ℕ) → is_operator x ≡ false → is_space x ≡ false → class x ≡ cond (x == 34) quote (cond (x == 92) backslash other)
other_class x o s = ap₂ (λ v w. cond (x == 34) quote (cond (x == 92) backslash (cond v operator (cond w space other)))) o s

pub word_passes : (t : List ℕ) (i : ℕ) → i < length t → is_operator (get_or t i 0) ≡ false → is_space (get_or t i 0) ≡ false → lex in_word (drop i t) ≡ lex in_word (drop (i + 1) t)
unfolding lex
word_passes t i h o s =
    let x = get_or t i 0 in
    let xs = drop (i + 1) t in
    ap (lex in_word) (drop_step t i h) ∙ ap (λ c. lex_byte in_word c x xs (λ m. lex m xs)) (other_class x o s) ∙ word_byte (x == 34) (x == 92) x xs

word_mode_byte : (q b : Bool) → next_mode in_word (cond q quote (cond b backslash other)) ≡ in_word
word_mode_byte true b = refl
word_mode_byte false true = refl
word_mode_byte false false = refl

pub word_mode : (t : List ℕ) (i : ℕ) → i < length t → is_operator (get_or t i 0) ≡ false → is_space (get_or t i 0) ≡ false → mode_at t i ≡ in_word → mode_at t (i + 1) ≡ in_word
word_mode t i h o s m =
    let x = get_or t i 0 in
    mode_step t i h ∙ ap₂ next_mode m (other_class x o s) ∙ word_mode_byte (x == 34) (x == 92)

or_right : (a b : Bool) → b ≡ true → (a || b) ≡ true
or_right true b h = refl
or_right false b h = h

pub ends_by_operator : (t : List ℕ) (i : ℕ) → i < length t → is_operator (get_or t i 0) ≡ true → ends_word (drop i t) ≡ true
ends_by_operator t i h o = ap ends_word (drop_step t i h) ∙ ap (λ b. b || is_space (get_or t i 0)) o

pub ends_by_space : (t : List ℕ) (i : ℕ) → i < length t → is_space (get_or t i 0) ≡ true → ends_word (drop i t) ≡ true
ends_by_space t i h s = ap ends_word (drop_step t i h) ∙ or_right (is_operator (get_or t i 0)) _ s

pub ends_by_end : (t : List ℕ) (i : ℕ) → length t ≤ i → ends_word (drop i t) ≡ true
ends_by_end t i h = ap ends_word (drop_all i t h)

pub word_left : (t : List ℕ) (i : ℕ) → ends_word (drop i t) ≡ true → lex in_word (drop i t) ≡ left_at t i
word_left t i e = in_word-ended (drop i t) e

-- ---- a lexeme

pub string_depth : (n : ℕ) (o : Option (List ℕ)) → open_after n (string_token o) ≡ n
string_depth n None = refl
string_depth n (Some s) = refl

-- it opens and closes nothing
pub record IsFlat (k : Token) : Type 0 where
  pub stays : (n : ℕ) → open_after n k ≡ n

either_flat : (b : Bool) (k l : Token) → IsFlat k → IsFlat l → IsFlat (cond b k l)
either_flat true k l e f = e
either_flat false k l e f = f

flat_bad : IsFlat bad
flat_bad = record { stays = λ n. refl }

flat_number : (t : List ℕ) (o : Option (List ℕ)) → IsFlat (number_before t o)
flat_number t None = flat_bad
flat_number t (Some r) = either_flat (ends_word r) _ _ (record { stays = λ n. refl }) flat_bad

flat_literal : (name : List ℕ) (k : Token) (t : List ℕ) → IsFlat k → IsFlat (literal name k t)
flat_literal name k t e = either_flat (starts_with nat_eq t name && ends_word (drop (length name) t)) k bad e flat_bad

pub flat_word : (t : List ℕ) → IsFlat (word t)
unfolding word
flat_word t =
    either_flat (head t == 116) _ _ (flat_literal (116 ∷ 114 ∷ 117 ∷ 101 ∷ []) (boolean true) t (record { stays = λ n. refl }))
    (either_flat (head t == 102) _ _ (flat_literal (102 ∷ 97 ∷ 108 ∷ 115 ∷ 101 ∷ []) (boolean false) t (record { stays = λ n. refl }))
    (either_flat (head t == 110) _ _ (flat_literal (110 ∷ 117 ∷ 108 ∷ 108 ∷ []) null t (record { stays = λ n. refl })) (flat_number t (after_number t))))

pub quote_first : (t : List ℕ) (i k : ℕ) → i < length t → get_or t i 0 ≡ 34 → left_at t k ≡ lex in_string (drop (i + 1) t) → Steps t i k
unfolding lex
quote_first t i k h e l = record {
  first = token (string_token (content plain (drop (i + 1) t)));
  left =
      ap (lex between) (drop_step t i h ∙ ap (λ x. x ∷ drop (i + 1) t) e) ∙ ap (λ ls. token (string_token (content plain (drop (i + 1) t))) ∷ ls) (sym l);
  opens = λ n. string_depth n (content plain (drop (i + 1) t)) ∙ sym (ap (depth_by n) e);
}

first_word : (b : Bool) (x : ℕ) (xs : List ℕ) → lex_byte between (cond b backslash other) x xs (λ m. lex m xs) ≡ token (cond b bad (word (x ∷ xs))) ∷ lex in_word xs
first_word true x xs = refl
first_word false x xs = refl

pub flat_byte : (n x : ℕ) → is_operator x ≡ false → depth_by n x ≡ n
flat_byte n x o =
    let a = or_false ((x == 123) || (x == 125) || (x == 91) || (x == 93) || (x == 58)) (x == 44) o in
    let b = or_false ((x == 123) || (x == 125) || (x == 91) || (x == 93)) (x == 58) a.0 in
    let c = or_false ((x == 123) || (x == 125) || (x == 91)) (x == 93) b.0 in
    let d = or_false ((x == 123) || (x == 125)) (x == 91) c.0 in
    let e = or_false (x == 123) (x == 125) d.0 in
    rw (e.0, e.1, d.1, c.1) refl

pub word_first : (t : List ℕ) (i k : ℕ) → i < length t → (get_or t i 0 ≡ 34 → ⊥) → is_operator (get_or t i 0) ≡ false → is_space (get_or t i 0) ≡ false
    → left_at t k ≡ lex in_word (drop (i + 1) t) → Steps t i k
unfolding lex
word_first t i k h q o s l =
    let x = get_or t i 0 in
    let xs = drop (i + 1) t in
    record {
      first = token (cond (x == 92) bad (word (x ∷ xs)));
      left =
          ap (lex between) (drop_step t i h)
          ∙ ap (λ c. lex_byte between c x xs (λ m. lex m xs)) (other_class x o s ∙ ap (λ b. cond b quote (cond (x == 92) backslash other)) (ne_eqb x 34 q))
          ∙ first_word (x == 92) x xs ∙ ap (λ ls. token (cond (x == 92) bad (word (x ∷ xs))) ∷ ls) (sym l);
      opens = λ n. (either_flat (x == 92) bad (word (x ∷ xs)) flat_bad (flat_word (x ∷ xs))).stays n ∙ sym (flat_byte n x o);
    }

pub operator_class : (x : ℕ) → is_operator x ≡ true → class x ≡ operator
operator_class = each_operator (λ x. class x ≡ operator) refl refl refl refl refl refl

operator_next : (m : Mode) (c : Class) → c ≡ operator → (m ≡ between) ⊎ (m ≡ in_word) → next_mode m c ≡ between
operator_next m c e (inl f) = ap₂ next_mode f e
operator_next m c e (inr f) = ap₂ next_mode f e

pub operator_end : (t : List ℕ) (i : ℕ) → i < length t → is_operator (get_or t i 0) ≡ true → IsEnd t i → mode_at t (i + 1) ≡ between
operator_end t i h o e = mode_step t i h ∙ operator_next (mode_at t i) _ (operator_class (get_or t i 0) o) (end_modes t i h e)

-- where neither an operator nor whitespace stands, no word has just ended
pub begins_here : (t : List ℕ) (i : ℕ) → i < length t → is_operator (get_or t i 0) ≡ false → is_space (get_or t i 0) ≡ false → IsEnd t i → mode_at t i ≡ between
begins_here t i h o s (inl e) = e
begins_here t i h o s (inr (inl e)) = absurd (true≢false (sym e.1 ∙ ap ends_word (drop_step t i h) ∙ ap₂ (λ a b. a || b) o s))
begins_here t i h o s (inr (inr e)) = let never : ⊥ = omega arith in absurd never

pub quote_opens : (t : List ℕ) (i : ℕ) → i < length t → get_or t i 0 ≡ 34 → mode_at t i ≡ between → mode_at t (i + 1) ≡ in_string
quote_opens t i h e m = mode_step t i h ∙ ap₂ (λ n x. next_mode n (class x)) m e

word_begins : (b : Bool) → next_mode between (cond b backslash other) ≡ in_word
word_begins true = refl
word_begins false = refl

pub word_opens : (t : List ℕ) (i : ℕ) → i < length t → (get_or t i 0 ≡ 34 → ⊥) → is_operator (get_or t i 0) ≡ false → is_space (get_or t i 0) ≡ false → mode_at t i ≡ between → mode_at t (i + 1) ≡ in_word
word_opens t i h q o s m =
    let x = get_or t i 0 in
    mode_step t i h ∙ ap₂ next_mode m (other_class x o s ∙ ap (λ b. cond b quote (cond (x == 92) backslash other)) (ne_eqb x 34 q)) ∙ word_begins (x == 92)

-- ---- where a lexeme ends

pub closes_now : (t : List ℕ) (i : ℕ) → i < length t → get_or t i 0 ≡ 34 → mode_at t i ≡ in_string → Closes t (i + 1)
closes_now t i h q m = let e : i + 1 - 1 ≡ i = omega arith in inl (quote_mode t i h q m, ap (λ k. get_or t k 0) e ∙ q)

pub open_in_string : (t : List ℕ) (i : ℕ) → i ≡ length t → mode_at t i ≡ in_string → Closes t i
open_in_string t i e m = inr (e, λ o. subst Outside (ap (mode_at t) (sym e) ∙ m) o)

pub open_in_escape : (t : List ℕ) (i : ℕ) → i < length t → length t - i < 2 → get_or t i 0 ≡ 92 → mode_at t i ≡ in_string → Closes t (length t)
open_in_escape t i h l b m =
    let e : length t ≡ i + 1 = omega arith in
    inr (refl, λ o. subst Outside (ap (mode_at t) e ∙ mode_step t i h ∙ ap₂ (λ n x. next_mode n (class x)) m b) o)

pub string_has_end : (t : List ℕ) (k : ℕ) → Closes t k → IsEnd t k × HasEnd t k
string_has_end t k (inl c) = (inl c.0, inl (ap is_space c.1))
string_has_end t k (inr c) = (inr (inr c.0), inr c.1)

pub operator_no_space : (x : ℕ) → is_operator x ≡ true → is_space x ≡ false
operator_no_space = each_operator (λ x. is_space x ≡ false) refl refl refl refl refl refl

pub operator_has_end : (t : List ℕ) (i : ℕ) → i < length t → is_operator (get_or t i 0) ≡ true → IsEnd t i → IsEnd t (i + 1) × HasEnd t (i + 1)
operator_has_end t i h o e =
    let same : i + 1 - 1 ≡ i = omega arith in
    (inl (operator_end t i h o e), inl (ap (λ k. is_space (get_or t k 0)) same ∙ operator_no_space (get_or t i 0) o))

pub no_space_before : (t : List ℕ) (i k : ℕ) → (k ≡ i + 1) ⊎ (is_space (get_or t (k - 1) 0) ≡ false) → is_space (get_or t i 0) ≡ false → is_space (get_or t (k - 1) 0) ≡ false
no_space_before t i k (inl e) s = let same : k - 1 ≡ i = omega (arith, e) in ap (λ n. is_space (get_or t n 0)) same ∙ s
no_space_before t i k (inr n) s = n

pub skip_nothing : (n m : ℕ) (t : List ℕ) (i : ℕ) → length t ≤ i → left_at t i ≡ skip n (left_at t i)
unfolding lex skip
skip_nothing n m t i h = let e = ap (lex between) (drop_all i t h) in e ∙ sym (ap (skip n) e)

-- ---- a comma or another operator

pub operator_lex : (x : ℕ) (xs : List ℕ) → is_operator x ≡ true → lex between (x ∷ xs) ≡ operator_lexeme x ∷ lex between xs
unfolding lex
operator_lex x xs o = ap (λ c. lex_byte between c x xs (λ m. lex m xs)) (operator_class x o)

pub operator_left : (t : List ℕ) (i c : ℕ) → i < length t → get_or t i 0 ≡ c → is_operator c ≡ true → left_at t i ≡ operator_lexeme c ∷ left_at t (i + 1)
operator_left t i c h e o = ap (lex between) (drop_step t i h ∙ ap (λ x. x ∷ drop (i + 1) t) e) ∙ operator_lex c (drop (i + 1) t) o

pub operator_opens : (n x : ℕ) → is_operator x ≡ true → depth_after n (operator_lexeme x) ≡ depth_by n x
operator_opens n x = each_operator (λ y. depth_after n (operator_lexeme y) ≡ depth_by n y) refl refl refl refl refl refl x

pub operator_first : (t : List ℕ) (i : ℕ) → i < length t → is_operator (get_or t i 0) ≡ true → Steps t i (i + 1)
operator_first t i h o = record { first = operator_lexeme (get_or t i 0); left = operator_left t i (get_or t i 0) h refl o; opens = λ n. operator_opens n (get_or t i 0) o }

-- ---- brackets

pub skip_step : (t : List ℕ) (i k n : ℕ) → Steps t i k → skip n (left_at t i) ≡ if_open (depth_by n (get_or t i 0)) (left_at t k) (skip (depth_by n (get_or t i 0)) (left_at t k))
unfolding skip
skip_step t i k n s = ap (skip n) s.left ∙ ap (λ m. if_open m (left_at t k) (skip m (left_at t k))) (s.opens n)

pub most_step : (t : List ℕ) (i k n : ℕ) → Steps t i k → most_open n (left_at t i) ≡ max n (most_open (depth_by n (get_or t i 0)) (left_at t k))
unfolding most_open
most_step t i k n s = ap (most_open n) s.left ∙ ap (λ m. max n (most_open m (left_at t k))) (s.opens n)

pub most_least : (n : ℕ) (ls : List Lexeme) → n ≤ most_open n ls
unfolding most_open
most_least n [] = omega arith
most_least n (l ∷ ls) = omega arith

pub most_nothing : (n : ℕ) (t : List ℕ) (i : ℕ) → length t ≤ i → most_open n (left_at t i) ≡ n
unfolding lex most_open
most_nothing n t i h = ap (λ xs. most_open n (lex between xs)) (drop_all i t h)

-- ---- what may follow a value

abbrev closes : Token → Bool
closes Token.begin_object = false
closes Token.end_object = true
closes Token.begin_array = false
closes Token.end_array = true
closes (Token.key s) = false
closes (Token.string s) = false
closes (Token.number s) = false
closes (Token.boolean b) = false
closes Token.null = false
closes Token.bad = false

-- nothing, a comma or a closing bracket
abbrev pub follows : List Lexeme → Bool
follows [] = true
follows (token k ∷ ls) = closes k
follows (comma ∷ ls) = true
follows (colon ∷ ls) = false

flat_closes : (k : Token) → IsFlat k → closes k ≡ false
flat_closes Token.begin_object h = refl
flat_closes Token.end_object h = let e : 0 ≡ 1 = h.stays 1 in let never : ⊥ = omega (arith, e) in absurd never
flat_closes Token.begin_array h = refl
flat_closes Token.end_array h = let e : 0 ≡ 1 = h.stays 1 in let never : ⊥ = omega (arith, e) in absurd never
flat_closes (Token.key s) h = refl
flat_closes (Token.string s) h = refl
flat_closes (Token.number s) h = refl
flat_closes (Token.boolean b) h = refl
flat_closes Token.null h = refl
flat_closes Token.bad h = refl

string_closes_nothing : (o : Option (List ℕ)) → closes (string_token o) ≡ false
string_closes_nothing None = refl
string_closes_nothing (Some s) = refl

no_follower : (q b : Bool) (x : ℕ) (xs : List ℕ) → follows (lex_byte between (cond q quote (cond b backslash other)) x xs (λ m. lex m xs)) ≡ false
no_follower true b x xs = string_closes_nothing (content plain xs)
no_follower false true x xs = refl
no_follower false false x xs = flat_closes (word (x ∷ xs)) (flat_word (x ∷ xs))

pub ends-follows : (r : List ℕ) → follows (lex between r) ≡ true → ends_word r ≡ true
unfolding lex
ends-follows [] h = refl
ends-follows (x ∷ xs) h = go (cases_Bool (is_operator x)) (cases_Bool (is_space x))
  where
    go : (is_operator x ≡ true) ⊎ (is_operator x ≡ false) → (is_space x ≡ true) ⊎ (is_space x ≡ false) → (is_operator x || is_space x) ≡ true
    go (inl o) s = ap (λ b. b || is_space x) o
    go (inr o) (inl s) = or_right (is_operator x) _ s
    go (inr o) (inr s) =
        absurd (false≢true (sym (ap (λ c. follows (lex_byte between c x xs (λ m. lex m xs))) (other_class x o s) ∙ no_follower (x == 34) (x == 92) x xs) ∙ h))
