-- Laws of the indexes that tokens name, for the proofs above this crate to cite: the last section,
-- which the module `laws` has as contracts.
use Rattle.std.proofs.Common.{◌≡◌, ℕ, zero, suc, ◌+◌, ◌*◌, ◌/◌, ◌%◌, ◌<◌, ◌≤◌, ◌^◌, ⊎_elim, ◌++◌, append-nil}
use Rattle.std.proofs.Common.{append_assoc, List, [], ◌∷◌, map, length, get_or, Bool, true, false, not, ◌&&◌, ◌||◌}
use Rattle.std.proofs.Common.{◌==◌, nat_lt, if◌then◌else◌, Some, None, decimal, refl, sym, ap, ap₂, ◌∙◌, arith, lt-ltb}
use Rattle.std.proofs.Common.{le-ltb}
use Rattle.std.specs.Prelude.{◌↔◌}
use Rattle.std.proofs.lemmas.Bool.{cases_eq, and_parts, ne_eqb}
use Rattle.std.proofs.lemmas.Bool.Decides.{nat_tests}
use Rattle.std.proofs.lemmas.Fmt.{decimal-digits_of, decimal_digit}
use Rattle.std.proofs.lemmas.Int.Digits.{digits_value_is, all_below_base_digits_of, first_digits_of, number_digits_of}
use Rattle.std.proofs.lemmas.Int.Digits.{digits_of_step}
use Rattle.std.specs.Char.{digit_value, is_ascii_digit}
use Rattle.std.specs.Int.Digits.{AllBelowBase, number_from_digits, number_from_digits_after, digits_of}
use Rattle.std.specs.Str.{all_ascii_digits}
use Rattle.std.specs.Str.Parse.{digits_value}
use Rattle.jsonptr.specs.Places.{place_of, decimal_token, next_token}
use Rattle.jsonptr.specs.Text.{encoded, encoded_byte}

-- ---- what a token is that names an index

pub record Tells (t : List ℕ) (i : ℕ) : Type 0 where
  pub digits : all_ascii_digits t ≡ true
  pub nonempty : 0 < length t
  pub first : get_or t 0 0 ≡ 48 → length t ≡ 1
  pub value : digits_value 10 t ≡ i

test : (b : Bool) (v i : ℕ) → (if b then Some v else None) ≡ Some i → (b ≡ true) × (v ≡ i)
test true v i h = (refl, cc)
test false v i h = cc

both : (a b : Bool) → a && b ≡ true → (a ≡ true) × (b ≡ true)
both true b h = (refl, h)
both false b h = cc

above : (n : ℕ) → nat_lt 0 n ≡ true → 0 < n
above n h = grind (arith, nat_tests)

first_of : (n x : ℕ) → (n == 1 || not (x == 48)) ≡ true → x ≡ 48 → n ≡ 1
first_of n x h e = grind (arith, nat_tests)

told : (n x : ℕ) → 0 < n → (x ≡ 48 → n ≡ 1) → (nat_lt 0 n ≡ true) × ((n == 1 || not (x == 48)) ≡ true)
told n x h k = (grind (arith, nat_tests), grind (arith, nat_tests))

pub tells : (t : List ℕ) (i : ℕ) → place_of t ≡ Some i → Tells t i
unfolding place_of
tells t i h =
    let a = test _ _ _ h in
    let b = both _ _ a.0 in
    let c = both _ _ b.0 in
    record { digits = c.0; nonempty = above (length t) c.1; first = first_of (length t) (get_or t 0 0) b.1; value = a.1 }

pub tells_back : (t : List ℕ) (i : ℕ) → Tells t i → place_of t ≡ Some i
unfolding place_of
tells_back t i h =
    let k : (nat_lt 0 (length t) ≡ true) × ((length t == 1 || not (get_or t 0 0 == 48)) ≡ true) = told (length t) (get_or t 0 0) h.nonempty h.first in
    rw (h.digits, k.0, k.1) (ap Some h.value)

-- ---- the decimal text of an index names it

glyph : (x : ℕ) → x < 10 → digit_value (48 + x) ≡ x
glyph x h = rw (le-ltb (48 + x) 48 (omega arith), lt-ltb (48 + x) 58 (omega arith)) (omega arith)

is_glyph : (x : ℕ) → x < 10 → is_ascii_digit (48 + x) ≡ true
is_glyph x h = grind (arith, nat_tests)

glyphs : (ds : List ℕ) → AllBelowBase 10 ds → map digit_value (map (λ x. 48 + x) ds) ≡ ds
glyphs [] h = refl
glyphs (d ∷ ds) h = rw (glyph d h.0, glyphs ds h.1)

are_glyphs : (ds : List ℕ) → AllBelowBase 10 ds → all_ascii_digits (map (λ x. 48 + x) ds) ≡ true
are_glyphs [] h = refl
are_glyphs (d ∷ ds) h = rw (is_glyph d h.0) (are_glyphs ds h.1)

some : (ds : List ℕ) → 0 < get_or ds 0 0 → 0 < length (map (λ x. 48 + x) ds)
some [] h = absurd (omega arith)
some (d ∷ ds) h = omega arith

begin : (ds : List ℕ) → 0 < get_or ds 0 0 → get_or (map (λ x. 48 + x) ds) 0 0 ≡ 48 → length (map (λ x. 48 + x) ds) ≡ 1
begin [] h e = absurd (omega arith)
begin (d ∷ ds) h e = absurd (omega arith)

value : (n : ℕ) → digits_value 10 (map (λ x. 48 + x) (digits_of 10 n)) ≡ n
value n =
    digits_value_is 10 (map (λ x. 48 + x) (digits_of 10 n)) ∙ ap (number_from_digits 10) (glyphs (digits_of 10 n) (all_below_base_digits_of 10 n (omega arith)))
    ∙ number_digits_of 10 n (omega arith)

token_place : (i : ℕ) → place_of (decimal_token i) ≡ Some i
unfolding place_of
token_place zero = refl
token_place (suc n) =
    let ds = digits_of 10 (suc n) in
    let first : 0 < get_or ds 0 0 = first_digits_of 10 (suc n) (omega arith) (omega arith) in
    tells_back (map (λ x. 48 + x) ds) (suc n)
    (record { digits = are_glyphs ds (all_below_base_digits_of 10 (suc n) (omega arith)); nonempty = some ds first; first = begin ds first; value = value (suc n) })

-- ---- no other token names it

digits_after : (n : ℕ) (ds : List ℕ) → 0 < n → AllBelowBase 10 ds → digits_of 10 (number_from_digits_after 10 n ds) ≡ digits_of 10 n ++ ds
digits_after n [] some h = sym (append-nil (digits_of 10 n))
digits_after n (d ∷ ds) some h =
    let front : (n * 10 + d) / 10 ≡ n = omega (arith, h.0) in
    let end : (n * 10 + d) % 10 ≡ d = omega (arith, h.0) in
    digits_after (n * 10 + d) ds (omega arith) h.1
    ∙ ap (λ x. x ++ ds) (digits_of_step 10 (n * 10 + d) (omega arith) (omega arith) ∙ ap₂ (λ m x. digits_of 10 m ++ (x ∷ [])) front end)
    ∙ append_assoc (digits_of 10 n) (d ∷ []) ds

digits_first : (d : ℕ) (ds : List ℕ) → 0 < d → d < 10 → AllBelowBase 10 ds → digits_of 10 (number_from_digits 10 (d ∷ ds)) ≡ d ∷ ds
digits_first d ds some small h =
    let n : 0 * 10 + d ≡ d = omega arith in
    let front : d / 10 ≡ 0 = omega arith in
    let end : d % 10 ≡ d = omega arith in
    ap (λ m. digits_of 10 (number_from_digits_after 10 m ds)) n ∙ digits_after d ds some h
    ∙ ap (λ x. x ++ ds) (digits_of_step 10 d (omega arith) some ∙ ap₂ (λ m x. digits_of 10 m ++ (x ∷ [])) front end)

in_range : (c : ℕ) → is_ascii_digit c ≡ true → (48 ≤ c) × (c < 58)
in_range c h = (grind (arith, nat_tests), grind (arith, nat_tests))

of_glyph : (c : ℕ) → 48 ≤ c → c < 58 → (digit_value c < 10) × (48 + digit_value c ≡ c)
of_glyph c low high = rw (le-ltb c 48 low, lt-ltb c 58 high) (omega arith, omega arith)

of_glyphs : (t : List ℕ) → all_ascii_digits t ≡ true → AllBelowBase 10 (map digit_value t) × (map (λ x. 48 + x) (map digit_value t) ≡ t)
of_glyphs [] h = (tt, refl)
of_glyphs (c ∷ t) h =
    let two = and_parts (is_ascii_digit c) (all_ascii_digits t) h in
    let r = in_range c two.0 in
    let g = of_glyph c r.0 r.1 in
    let i = of_glyphs t two.1 in
    ((g.0, i.0), ap₂ (λ x xs. x ∷ xs) g.1 i.1)

above_zero : (n d : ℕ) (ds : List ℕ) → digits_of 10 n ≡ d ∷ ds → 0 < n
above_zero zero d ds h = cc
above_zero (suc n) d ds h = omega arith

token_some : (n : ℕ) → 0 < n → decimal_token n ≡ map (λ x. 48 + x) (digits_of 10 n)
token_some zero h = absurd (omega arith)
token_some (suc n) h = refl

one_digit : (c : ℕ) (t : List ℕ) → length (c ∷ t) ≡ 1 → t ≡ []
one_digit c [] h = refl
one_digit c (x ∷ t) h = absurd (omega arith)

-- the text of the number that is written
token_value : (t : List ℕ) → all_ascii_digits t ≡ true → 0 < length t → (get_or t 0 0 ≡ 48 → length t ≡ 1) → decimal_token (digits_value 10 t) ≡ t
token_value [] d some first = absurd (omega arith)
token_value (c ∷ t) d some first =
    let two = and_parts (is_ascii_digit c) (all_ascii_digits t) d in
    let r = in_range c two.0 in
    let g = of_glyph c r.0 r.1 in
    let i = of_glyphs t two.1 in
    ⊎_elim
    (λ (zero : c ≡ 48). (let none : t ≡ [] = one_digit c t (first zero) in rw (zero, none) refl))
    (λ (other : c ≡ 48 → ⊥).
    (let v : digits_value 10 (c ∷ t) ≡ number_from_digits 10 (digit_value c ∷ map digit_value t) = digits_value_is 10 (c ∷ t) in
    let same : digits_of 10 (digits_value 10 (c ∷ t)) ≡ digit_value c ∷ map digit_value t = ap (digits_of 10) v ∙ digits_first (digit_value c) (map digit_value t) (omega arith) g.0 i.0 in
    let above : 0 < digits_value 10 (c ∷ t) = above_zero (digits_value 10 (c ∷ t)) _ _ same in
    token_some (digits_value 10 (c ∷ t)) above ∙ ap (map (λ x. 48 + x)) same ∙ ap₂ (λ x xs. x ∷ xs) g.1 i.1)) (cases_eq c 48)

place_token : (t : List ℕ) (i : ℕ) → place_of t ≡ Some i → t ≡ decimal_token i
place_token t i h = let w : Tells t i = tells t i h in sym (token_value t w.digits w.nonempty w.first) ∙ ap decimal_token w.value

-- ---- digits in a text

pub encoded_digit : (x : ℕ) → 48 ≤ x → x ≤ 57 → encoded_byte x ≡ x ∷ []
encoded_digit x l h = let n = ne_eqb x 47 (λ e. omega arith) in let m = ne_eqb x 126 (λ e. omega arith) in rw (n, m, encoded_byte) refl

encoded_digits : (ds : List ℕ) → AllBelowBase 10 ds → encoded (map (λ x. 48 + x) ds) ≡ map (λ x. 48 + x) ds
encoded_digits [] h = refl
encoded_digits (x ∷ ds) h =
    let less : x < 10 = h.0 in
    ap (λ b. b ++ encoded (map (λ y. 48 + y) ds)) (encoded_digit (48 + x) (omega arith) (omega arith)) ∙ ap (λ r. (48 + x) ∷ r) (encoded_digits ds h.1)

-- ---- the laws

-- a token names an index exactly where it is the decimal text of that index
pub place_is_token : (t : List ℕ) (i : ℕ) → (place_of t ≡ Some i) ↔ (t ≡ decimal_token i)
place_is_token t i = (place_token t i, λ is. ap place_of is ∙ token_place i)

-- the decimal text of an index below 2^64 is the one that is printed for it
pub token_is_decimal : (i : ℕ) → i < 2 ^ 64 → decimal_token i ≡ decimal i
token_is_decimal zero small = sym (decimal_digit 0 (omega arith))
token_is_decimal (suc n) small = sym (decimal-digits_of (suc n) (omega arith) small)

-- the decimal text of an index stands in a pointer's text as it is
pub place_is_plain : (i : ℕ) → encoded (decimal_token i) ≡ decimal_token i
place_is_plain zero = refl
place_is_plain (suc n) = encoded_digits (digits_of 10 (suc n)) (all_below_base_digits_of 10 (suc n) (omega arith))

-- the token `-` is no index's decimal text
pub next_is_no_place : place_of next_token ≡ None
unfolding place_of
next_is_no_place = refl
