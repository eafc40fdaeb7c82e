-- Brackets counted along a block, byte by byte and by masks.
use Rattle.std.proofs.Common.{◌≡◌, ◌⊎◌, ℕ, zero, suc, ◌+◌, ◌<◌, ◌≤◌, Bool, true, false, cond, ◌==◌, ◌||◌, max, List, [], ◌∷◌, length, drop, get_or, inl, inr, refl, sym, ap, ◌∙◌, subst, arith, add-zero}
use Rattle.std.proofs.lemmas.Bool.{cases_Bool}
use Rattle.json.specs.Text.{content, plain}
use Rattle.json.specs.Word.{is_operator, is_space, word}
use Rattle.json.specs.Lex.{Lexeme, token, string_token, operator_lexeme, Class, quote, backslash, operator, space, other, class, Mode, between, in_word, in_string, in_escape, lex, lex_byte}
use Rattle.json_lexemes.specs.Lexing.{next_mode}
use Rattle.json_lexemes.specs.Skipped.{depth_after, if_open, most_open, nesting, one_less, skip}
use Rattle.json_lexemes.specs.Places.{mode_at, depth_by}
use Rattle.json_lexemes.specs.Blocks.{is_outside, mode_along, open_along}
use Rattle.json_lexemes.proofs.Steps.{drop_step, mode_step, most_least, operator_class, operator_opens, flat_byte, flat_word, string_depth}
use Rattle.json_lexemes.proofs.Runs.{passes_lexeme}

-- ---- one byte

-- what a byte of this class does to the count of brackets
abbrev Counts : Class → ℕ → Type 0
Counts quote x = (n : ℕ) → depth_by n x ≡ n
Counts backslash x = (n : ℕ) → depth_by n x ≡ n
Counts operator x = (n : ℕ) → depth_after n (operator_lexeme x) ≡ depth_by n x
Counts space x = (n : ℕ) → depth_by n x ≡ n
Counts other x = (n : ℕ) → depth_by n x ≡ n

flat_counts : (q b s : Bool) (x : ℕ) → ((n : ℕ) → depth_by n x ≡ n) → Counts (cond q quote (cond b backslash (cond s space other))) x
flat_counts true b s x h = h
flat_counts false true s x h = h
flat_counts false false true x h = h
flat_counts false false false x h = h

byte_counts : (x : ℕ) → Counts (class x) x
byte_counts x = by_kind (cases_Bool (is_operator x))
  where
    by_kind : (is_operator x ≡ true) ⊎ (is_operator x ≡ false) → Counts (class x) x
    by_kind (inl o) = subst (λ c. Counts c x) (sym (operator_class x o)) (λ n. operator_opens n x o)
    by_kind (inr o) =
        subst (λ b. Counts (cond (x == 34) quote (cond (x == 92) backslash (cond b operator (cond (is_space x) space other)))) x) (sym o)
        (flat_counts (x == 34) (x == 92) (is_space x) x (λ n. flat_byte n x o))

-- what is left behind lexemes, of n open brackets
abbrev Skipped : ℕ → List Lexeme → List Lexeme
Skipped n ls = if_open n ls (skip n ls)

as_before : (k n : ℕ) (ls : List Lexeme) → k ≡ suc n → skip (suc n) ls ≡ Skipped k ls
as_before k n ls e = ap (λ d. Skipped d ls) (sym e)

byte_skips : (m : Mode) (c : Class) (x : ℕ) (xs : List ℕ) (n : ℕ) → Counts c x
    → skip (suc n) (lex_byte m c x xs (λ k. lex k xs)) ≡ Skipped (cond (is_outside m) (depth_by (suc n) x) (suc n)) (lex (next_mode m c) xs)
unfolding skip
byte_skips between quote x xs n h = (passes_lexeme (token (string_token (content plain xs))) (lex in_string xs) (λ k. string_depth k (content plain xs))).skips n ∙ as_before _ n _ (h (suc n))
byte_skips between backslash x xs n h = as_before _ n _ (h (suc n))
byte_skips between operator x xs n h = ap (λ d. Skipped d (lex between xs)) (h (suc n))
byte_skips between space x xs n h = as_before _ n _ (h (suc n))
byte_skips between other x xs n h = (passes_lexeme (token (word (x ∷ xs))) (lex in_word xs) (flat_word (x ∷ xs)).stays).skips n ∙ as_before _ n _ (h (suc n))
byte_skips in_word quote x xs n h = as_before _ n _ (h (suc n))
byte_skips in_word backslash x xs n h = as_before _ n _ (h (suc n))
byte_skips in_word operator x xs n h = ap (λ d. Skipped d (lex between xs)) (h (suc n))
byte_skips in_word space x xs n h = as_before _ n _ (h (suc n))
byte_skips in_word other x xs n h = as_before _ n _ (h (suc n))
byte_skips in_string quote x xs n h = refl
byte_skips in_string backslash x xs n h = refl
byte_skips in_string operator x xs n h = refl
byte_skips in_string space x xs n h = refl
byte_skips in_string other x xs n h = refl
byte_skips in_escape c x xs n h = refl

-- how many brackets are open at the most, behind a byte that isn't a lexeme's first, and behind one that is
none_more : (n k : ℕ) (ls : List Lexeme) → k ≡ n → most_open n ls ≡ max n (most_open k ls)
none_more n k ls e = let a = most_least n ls in let b = ap (λ d. most_open d ls) e in omega (arith, a, b)

lexeme_more : (n k : ℕ) (l : Lexeme) (ls : List Lexeme) → depth_after n l ≡ k → most_open n (l ∷ ls) ≡ max n (most_open k ls)
unfolding most_open
lexeme_more n k l ls e = ap (λ d. max n (most_open d ls)) e

byte_more : (m : Mode) (c : Class) (x : ℕ) (xs : List ℕ) (n : ℕ) → Counts c x
    → most_open n (lex_byte m c x xs (λ k. lex k xs)) ≡ max n (most_open (cond (is_outside m) (depth_by n x) n) (lex (next_mode m c) xs))
byte_more between quote x xs n h = lexeme_more n _ (token (string_token (content plain xs))) (lex in_string xs) (string_depth n (content plain xs) ∙ sym (h n))
byte_more between backslash x xs n h = lexeme_more n _ _ (lex in_word xs) (sym (h n))
byte_more between operator x xs n h = lexeme_more n _ (operator_lexeme x) (lex between xs) (h n)
byte_more between space x xs n h = none_more n _ (lex between xs) (h n)
byte_more between other x xs n h = lexeme_more n _ (token (word (x ∷ xs))) (lex in_word xs) ((flat_word (x ∷ xs)).stays n ∙ sym (h n))
byte_more in_word quote x xs n h = none_more n _ (lex in_word xs) (h n)
byte_more in_word backslash x xs n h = none_more n _ (lex in_word xs) (h n)
byte_more in_word operator x xs n h = lexeme_more n _ (operator_lexeme x) (lex between xs) (h n)
byte_more in_word space x xs n h = none_more n _ (lex between xs) (h n)
byte_more in_word other x xs n h = none_more n _ (lex in_word xs) (h n)
byte_more in_string quote x xs n h = none_more n n (lex between xs) refl
byte_more in_string backslash x xs n h = none_more n n (lex in_escape xs) refl
byte_more in_string operator x xs n h = none_more n n (lex in_string xs) refl
byte_more in_string space x xs n h = none_more n n (lex in_string xs) refl
byte_more in_string other x xs n h = none_more n n (lex in_string xs) refl
byte_more in_escape c x xs n h = none_more n n (lex in_string xs) refl

-- ---- several bytes

positive_skips : (n : ℕ) (ls : List Lexeme) → 0 < n → Skipped n ls ≡ skip n ls
positive_skips zero ls h = let never : ⊥ = omega arith in absurd never
positive_skips (suc n) ls h = refl

module _ (t : List ℕ) (at : ℕ) (m : Mode) where
  one_skips : (i n : ℕ) → at + i < length t → 0 < n
      → skip n (lex (mode_along t at m i) (drop (at + i) t))
      ≡ Skipped (cond (is_outside (mode_along t at m i)) (depth_by n (get_or t (at + i) 0)) n) (lex (mode_along t at m (suc i)) (drop (at + suc i) t))
  unfolding lex mode_along
  one_skips i zero h p = let never : ⊥ = omega arith in absurd never
  one_skips i (suc n) h p =
      let x = get_or t (at + i) 0 in
      let next : at + i + 1 ≡ at + suc i = omega arith in
      ap (λ l. skip (suc n) (lex (mode_along t at m i) l)) (drop_step t (at + i) h ∙ ap (λ k. x ∷ drop k t) next)
      ∙ byte_skips (mode_along t at m i) (class x) x (drop (at + suc i) t) n (byte_counts x)

  -- while one bracket stays open
  pub along_skips : (n i : ℕ) → at + i ≤ length t → ((j : ℕ) → j ≤ i → 0 < open_along t at m n j)
      → skip n (lex m (drop at t)) ≡ skip (open_along t at m n i) (lex (mode_along t at m i) (drop (at + i) t))
  unfolding mode_along open_along
  along_skips n zero h p = ap (λ k. skip n (lex m (drop k t))) (sym (add-zero at))
  along_skips n (suc i) h p =
      along_skips n i (omega arith) (λ j le. p j (omega arith))
      ∙ one_skips i (open_along t at m n i) (omega arith) (p i (omega arith))
      ∙ positive_skips _ _ (p (suc i) (omega arith))

  -- and where the last closes
  pub along_closes : (n i : ℕ) → at + i < length t → ((j : ℕ) → j ≤ i → 0 < open_along t at m n j) → open_along t at m n (suc i) ≡ 0
      → skip n (lex m (drop at t)) ≡ lex (mode_along t at m (suc i)) (drop (at + suc i) t)
  unfolding open_along
  along_closes n i h p e =
      along_skips n i (omega arith) p
      ∙ one_skips i (open_along t at m n i) h (p i (omega arith))
      ∙ ap (λ d. Skipped d (lex (mode_along t at m (suc i)) (drop (at + suc i) t))) e

  one_more : (i n : ℕ) → at + i < length t
      → most_open n (lex (mode_along t at m i) (drop (at + i) t))
      ≡ max n (most_open (cond (is_outside (mode_along t at m i)) (depth_by n (get_or t (at + i) 0)) n) (lex (mode_along t at m (suc i)) (drop (at + suc i) t)))
  unfolding lex mode_along
  one_more i n h =
      let x = get_or t (at + i) 0 in
      let next : at + i + 1 ≡ at + suc i = omega arith in
      ap (λ l. most_open n (lex (mode_along t at m i) l)) (drop_step t (at + i) h ∙ ap (λ k. x ∷ drop k t) next)
      ∙ byte_more (mode_along t at m i) (class x) x (drop (at + suc i) t) n (byte_counts x)

  -- while no more than `most` are open
  pub along_most : (n most i : ℕ) → at + i ≤ length t → ((j : ℕ) → j ≤ i → open_along t at m n j ≤ most)
      → max most (most_open n (lex m (drop at t))) ≡ max most (most_open (open_along t at m n i) (lex (mode_along t at m i) (drop (at + i) t)))
  unfolding mode_along open_along
  along_most n most zero h p = ap (λ k. max most (most_open n (lex m (drop k t)))) (sym (add-zero at))
  along_most n most (suc i) h p =
      let a = along_most n most i (omega arith) (λ j le. p j (omega arith)) in
      let b = one_more i (open_along t at m n i) (omega arith) in
      let c = p i (omega arith) in
      omega (arith, a, b, c)

  pub along_mode : (i : ℕ) → at + i ≤ length t → mode_at t at ≡ m → mode_at t (at + i) ≡ mode_along t at m i
  unfolding mode_along
  along_mode zero h e = ap (mode_at t) (add-zero at) ∙ e
  along_mode (suc i) h e =
      let next : at + suc i ≡ at + i + 1 = omega arith in
      ap (mode_at t) next ∙ mode_step t (at + i) (omega arith) ∙ ap (λ k. next_mode k (class (get_or t (at + i) 0))) (along_mode i (omega arith) e)

-- ---- as many brackets as bytes at the most

bytes_least : (a b : Bool) (n : ℕ) → cond a (suc n) (cond b (one_less n) n) ≤ suc n
bytes_least true b n = omega arith
bytes_least false true zero = omega arith
bytes_least false true (suc n) = omega arith
bytes_least false false n = omega arith

byte_least : (b : Bool) (n x : ℕ) → cond b (depth_by n x) n ≤ suc n
byte_least true n x = bytes_least ((x == 123) || (x == 91)) ((x == 125) || (x == 93)) n
byte_least false n x = omega arith

most_bytes : (m : Mode) (n : ℕ) (xs : List ℕ) → most_open n (lex m xs) ≤ n + length xs
unfolding lex most_open
most_bytes m n [] = omega arith
most_bytes m n (x ∷ xs) =
    let k = cond (is_outside m) (depth_by n x) n in
    let e = byte_more m (class x) x xs n (byte_counts x) in
    let l = byte_least (is_outside m) n x in
    let r = most_bytes (next_mode m (class x)) k xs in
    omega (arith, e, l, r)

pub nests_least : (t : List ℕ) → nesting t ≤ length t
nests_least t = let l = most_bytes between 0 t in omega (arith, l)
