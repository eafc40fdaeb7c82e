-- The bytes of a number, and those of a literal, are of one word.
use Rattle.std.proofs.Common.{◌≡◌, ◌⊎◌, ℕ, suc, ◌+◌, ◌<◌, ◌≤◌, Bool, true, false, cond, ◌==◌, ◌||◌, List, [], ◌∷◌, ◌++◌, length, take, drop, Option, Some, None, option_and_then, inl, inr, refl, sym, ap, ◌∙◌, subst, arith, append_assoc, length-append, append-nil}
use Rattle.std.proofs.lemmas.List.{take-append-drop, take_at, length-take-le}
use Rattle.std.proofs.lemmas.Bool.{false≢true, true≢false, eqb-true, ne_eqb, or_cases}
use Rattle.std.specs.Prelude.{⊤}
use Rattle.std.specs.List.{prefix_len}
use Rattle.std.specs.Char.{is_ascii_digit}
use Rattle.json.specs.Word.{head, ends_word, after_digits, after_minus, after_sign, after_whole, after_fraction, after_exponent, after_number}
use Rattle.json.specs.Lex.{class, other, Mode, between, in_word}
use Rattle.json.specs.Print.{IsNumber}
use Rattle.json_lexemes.specs.Lexing.{next_mode, after}
use Rattle.json_lexemes.specs.Places.{mode_at, IsEnd}
use Rattle.json_lexemes.proofs.Steps.{after-append, end_modes}

-- each is neither a quote nor a backslash, and ends no word
abbrev pub AreInner : List ℕ → Type 0
AreInner [] = ⊤
AreInner (x ∷ xs) = (class x ≡ other) × AreInner xs

joined : (a b : List ℕ) → AreInner a → AreInner b → AreInner (a ++ b)
joined [] b h k = k
joined (x ∷ a) b h k = (h.0, joined a b h.1 k)

-- ---- from xs to r stand such bytes

record Run (xs r : List ℕ) : Type 0 where
  bytes : List ℕ
  is : xs ≡ bytes ++ r
  inner : AreInner bytes

abbrev RunsTo : List ℕ → Option (List ℕ) → Type 0
RunsTo xs None = ⊤
RunsTo xs (Some r) = Run xs r

stays : (xs : List ℕ) → Run xs xs
stays xs = record { bytes = []; is = refl; inner = tt }

on : (a b : List ℕ) (o : Option (List ℕ)) → Run a b → RunsTo b o → RunsTo a o
on a b None p h = tt
on a b (Some c) p q = record { bytes = p.bytes ++ q.bytes; is = p.is ∙ ap (λ l. p.bytes ++ l) q.is ∙ sym (append_assoc p.bytes q.bytes c); inner = joined p.bytes q.bytes p.inner q.inner }

then : (t : List ℕ) (f : List ℕ → Option (List ℕ)) (o : Option (List ℕ)) → RunsTo t o → ((u : List ℕ) → RunsTo u (f u)) → RunsTo t (option_and_then f o)
then t f None h g = tt
then t f (Some r) h g = on t r (f r) h (g r)

by_test : (t : List ℕ) (b : Bool) (o p : Option (List ℕ)) → (b ≡ true → RunsTo t o) → (b ≡ false → RunsTo t p) → RunsTo t (cond b o p)
by_test t true o p f g = f refl
by_test t false o p f g = g refl

if_there : (t : List ℕ) (b : Bool) → (b ≡ true → Run t (drop 1 t)) → Run t (cond b (drop 1 t) t)
if_there t true f = f refl
if_there t false f = stays t

-- ---- the parts of a number

one : (c : ℕ) → class c ≡ other → (32 == c) ≡ false → (t : List ℕ) → (head t == c) ≡ true → Run t (drop 1 t)
one c k n [] e = absurd (false≢true (sym n ∙ e))
one c k n (x ∷ xs) e = record { bytes = x ∷ []; is = refl; inner = (ap class (eqb-true x c e) ∙ k, tt) }

one_of : (c d : ℕ) → class c ≡ other → class d ≡ other → (32 == c) ≡ false → (32 == d) ≡ false → (t : List ℕ) → ((head t == c) || (head t == d)) ≡ true → Run t (drop 1 t)
one_of c d k l n m t e = by_byte (or_cases _ _ e)
  where
    by_byte : ((head t == c) ≡ true) ⊎ ((head t == d) ≡ true) → Run t (drop 1 t)
    by_byte (inl h) = one c k n t h
    by_byte (inr h) = one d l m t h

digit_class : (x : ℕ) → is_ascii_digit x ≡ true → class x ≡ other
digit_class x d = rw (no 34 refl, no 92 refl, no 123 refl, no 125 refl, no 91 refl, no 93 refl, no 58 refl, no 44 refl, no 32 refl, no 9 refl, no 10 refl, no 13 refl) refl
  where
    no : (k : ℕ) → is_ascii_digit k ≡ false → (x == k) ≡ false
    no k f = ne_eqb x k (λ same. true≢false (sym d ∙ ap is_ascii_digit same ∙ f))

digit_before : (x : ℕ) (xs : List ℕ) (b : Bool) → is_ascii_digit x ≡ b → Run xs (drop (prefix_len is_ascii_digit xs) xs) → Run (x ∷ xs) (drop (cond b (1 + prefix_len is_ascii_digit xs) 0) (x ∷ xs))
digit_before x xs true e d =
    let n = prefix_len is_ascii_digit xs in
    let one : suc n ≡ 1 + n = omega arith in
    record { bytes = x ∷ d.bytes; is = ap (λ l. x ∷ l) d.is ∙ ap (λ k. (x ∷ d.bytes) ++ drop k (x ∷ xs)) one; inner = (digit_class x e, d.inner) }
digit_before x xs false e d = stays (x ∷ xs)

digit_run : (t : List ℕ) → Run t (drop (prefix_len is_ascii_digit t) t)
digit_run [] = stays []
digit_run (x ∷ xs) = digit_before x xs (is_ascii_digit x) refl (digit_run xs)

digits : (t : List ℕ) → RunsTo t (after_digits t)
digits t = by_test t (prefix_len is_ascii_digit t == 0) None _ (λ e. tt) (λ e. digit_run t)

whole : (t : List ℕ) → RunsTo t (after_whole t)
whole t = by_test t (head t == 48) (Some (drop 1 t)) _ (one 48 refl refl t) (λ e. digits t)

fraction : (t : List ℕ) → RunsTo t (after_fraction t)
fraction t = by_test t (head t == 46) _ (Some t) (λ e. on t (drop 1 t) _ (one 46 refl refl t e) (digits (drop 1 t))) (λ e. stays t)

signed : (t : List ℕ) → RunsTo t (after_digits (after_sign t))
signed t = on t (after_sign t) _ (if_there t _ (one_of 45 43 refl refl refl refl t)) (digits (after_sign t))

exponent : (t : List ℕ) → RunsTo t (after_exponent t)
exponent t = by_test t ((head t == 101) || (head t == 69)) _ (Some t) (λ e. on t (drop 1 t) _ (one_of 101 69 refl refl refl refl t e) (signed (drop 1 t))) (λ e. stays t)

number : (t : List ℕ) → RunsTo t (after_number t)
unfolding after_number
number t = then t after_exponent _ (then t after_fraction _ (on t (after_minus t) _ (if_there t _ (one 45 refl refl t)) (whole (after_minus t))) fraction) exponent

pub number_inner : (s : List ℕ) → IsNumber s → AreInner s
number_inner s h = let r = subst (RunsTo s) h (number s) in subst AreInner (sym (r.is ∙ append-nil r.bytes)) r.inner

-- ---- the mode behind them

word_stays : (s : List ℕ) → AreInner s → after in_word s ≡ in_word
word_stays [] h = refl
word_stays (x ∷ xs) h = ap (λ c. after (next_mode in_word c) xs) h.0 ∙ word_stays xs h.1

word_after : (m : Mode) (s : List ℕ) → (m ≡ between) ⊎ (m ≡ in_word) → 0 < length s → AreInner s → after m s ≡ in_word
word_after m [] e p h = let never : ⊥ = omega (arith, p) in absurd never
word_after m (x ∷ xs) (inl e) p h = ap (λ n. after (next_mode n (class x)) xs) e ∙ ap (λ c. after (next_mode between c) xs) h.0 ∙ word_stays xs h.1
word_after m (x ∷ xs) (inr e) p h = ap (λ n. after n (x ∷ xs)) e ∙ word_stays (x ∷ xs) h

mode_over : (t w : List ℕ) (i k : ℕ) → i ≤ length t → k ≡ i + length w → drop i t ≡ w ++ drop k t → mode_at t k ≡ after (mode_at t i) w
mode_over t w i k h e d =
    let whole : t ≡ (take i t ++ w) ++ drop k t = sym (take-append-drop i t) ∙ ap (λ r. take i t ++ r) d ∙ sym (append_assoc (take i t) w (drop k t)) in
    let size : length (take i t ++ w) ≡ k = omega (arith, e, length-append (take i t) w, length-take-le i t h) in
    ap (after between) (ap (take k) whole ∙ take_at (take i t ++ w) (drop k t) k size) ∙ after-append between (take i t) w

pub word_over : (t w : List ℕ) (i k : ℕ) → i < length t → k ≡ i + length w → 0 < length w → drop i t ≡ w ++ drop k t → AreInner w → ends_word (drop k t) ≡ true → IsEnd t i → IsEnd t k
word_over t w i k h size some d inner ended e = inr (inl (mode_over t w i k (omega (arith, h)) size d ∙ word_after (mode_at t i) w (end_modes t i h e) some inner, ended))
