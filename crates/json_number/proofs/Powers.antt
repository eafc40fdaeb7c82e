-- A number and a power of ten, written in one way.
use Rattle.std.proofs.Common.{◌≡◌, ◌⊎◌, ℕ, zero, suc, ◌+◌, ◌*◌, ◌^◌, ◌<◌, ◌==◌, Bool, true, false, List, [], length, if◌then◌else◌, refl, sym, ap, ap₂, ◌∙◌, inl, inr, arith}
use Rattle.std.proofs.lemmas.Nat.{pow-add}
use Rattle.std.proofs.Math.Nat.{pow-suc, mul_assoc}
use Rattle.std.proofs.lemmas.Bool.{false≢true}
use Rattle.std.proofs.lemmas.Bool.Decides.{Decides-eqb, Decides-like}
use Rattle.std.specs.Bool.{Decides}
use Rattle.std.specs.Str.Parse.{digits_value}
use Rattle.fast_float.specs.Text.{Parts, tens_up, tens_down}
use Rattle.json_number.specs.Digits.{IsBare, raising, lowering}
use Rattle.json_number.proofs.Fronts.{same_tests}

ten_times : (m p : ℕ) → m * (p * 10) ≡ m * p * 10
ten_times m p = sym (mul_assoc m p 10)

bare_zero : (m k : ℕ) → IsBare m → m ≡ k * 10 → m ≡ 0
bare_zero m k (inl z) e = z
bare_zero m k (inr n) e = absurd (n (omega arith))

pub pow_above : (y : ℕ) → 0 < 10 ^ y
pow_above zero = omega arith
pow_above (suc y) = let e = pow-suc 10 y in rw e (omega (arith, pow_above y))

pub no_product : (n p : ℕ) → 0 < p → n * p ≡ 0 → n ≡ 0
no_product zero p h e = refl
no_product (suc n) p h e = absurd (omega (arith, e))

shorter : (m n y : ℕ) → IsBare m → m ≡ n * 10 ^ suc y → (m ≡ n) × ((m ≡ 0) ⊎ (zero ≡ suc y))
shorter m n y b e =
    let f : m ≡ n * 10 ^ y * 10 = e ∙ ap (λ p. n * p) (pow-suc 10 y) ∙ ten_times n (10 ^ y) in
    let z : m ≡ 0 = bare_zero m (n * 10 ^ y) b f in
    (z ∙ sym (no_product n (10 ^ suc y) (pow_above (suc y)) (sym e ∙ z)), inl z)

next : (m n x y : ℕ) → (m ≡ n) × ((m ≡ 0) ⊎ (x ≡ y)) → (m ≡ n) × ((m ≡ 0) ⊎ (suc x ≡ suc y))
next m n x y (e, inl z) = (e, inl z)
next m n x y (e, inr s) = (e, inr (ap suc s))

turned : (m n y : ℕ) → (n ≡ m) × ((n ≡ 0) ⊎ (zero ≡ suc y)) → (m ≡ n) × ((m ≡ 0) ⊎ (suc y ≡ zero))
turned m n y (e, inl z) = (sym e, inl (sym e ∙ z))
turned m n y (e, inr s) = (sym e, inr (sym s))

pub one_form : (m n x y : ℕ) → IsBare m → IsBare n → m * 10 ^ x ≡ n * 10 ^ y → (m ≡ n) × ((m ≡ 0) ⊎ (x ≡ y))
one_form m n zero zero b d e = (omega (arith, e), inr refl)
one_form m n zero (suc y) b d e = shorter m n y b (omega (arith, e))
one_form m n (suc x) zero b d e = turned m n x (shorter n m x d (omega (arith, sym e)))
one_form m n (suc x) (suc y) b d e =
    let f : m * 10 ^ x * 10 ≡ n * 10 ^ y * 10 =
    sym (ten_times m (10 ^ x)) ∙ ap (λ p. m * p) (sym (pow-suc 10 x)) ∙ e ∙ ap (λ p. n * p) (pow-suc 10 y) ∙ ten_times n (10 ^ y) in
    next m n x y (one_form m n x y b d (omega (arith, f)))

pub gathered : (a m i u : ℕ) → a ≡ m * 10 ^ i → a * 10 ^ u ≡ m * 10 ^ (i + u)
gathered a m i u e = ap (λ n. n * 10 ^ u) e ∙ mul_assoc m (10 ^ i) (10 ^ u) ∙ ap (λ p. m * p) (sym (pow-add 10 i u))

-- ---- the exponents

up_by : (b : Bool) (e : List ℕ) → digits_value 10 (if b then [] else e) ≡ (if b then 0 else digits_value 10 e)
up_by true e = refl
up_by false e = refl

down_by : (b : Bool) (e : List ℕ) → digits_value 10 (if b then e else []) ≡ (if b then digits_value 10 e else 0)
down_by true e = refl
down_by false e = refl

pub up_is : (p : Parts) → digits_value 10 (raising p) ≡ tens_up p
up_is p = up_by p.exponent_negative p.exponent

pub down_is : (p : Parts) → length p.fraction + digits_value 10 (lowering p) ≡ tens_down p
down_is p = ap (λ n. length p.fraction + n) (down_by p.exponent_negative p.exponent)

-- a zero more is passed over
pub one_more_zero : (a m n d i : ℕ) → a ≡ m * 10 ^ i → m ≡ n * 10 + d → d ≡ 0 → a ≡ n * 10 ^ (i + 1)
one_more_zero a m n d i e f z =
    let g : m ≡ n * 10 ^ 1 = omega arith in
    e ∙ ap (λ k. k * 10 ^ i) g ∙ mul_assoc n (10 ^ 1) (10 ^ i) ∙ ap (λ p. n * p) (sym (pow-add 10 1 i)) ∙ ap (λ k. n * 10 ^ k) (omega arith)

-- ---- one size

pub none_times : (p : ℕ) → 0 * p ≡ 0
none_times p = omega arith

pub zero_test : (a m i : ℕ) → a ≡ m * 10 ^ i → (m == 0) ≡ (a == 0)
zero_test a m i e = same_tests m 0 a 0 (λ z. e ∙ ap (λ n. n * 10 ^ i) z ∙ none_times (10 ^ i)) (λ z. no_product m (10 ^ i) (pow_above i) (sym e ∙ z))

-- a and b are m and n with zeros behind them
pub record Cut (a b m n i j : ℕ) : Type 0 where
  pub first : a ≡ m * 10 ^ i
  pub second : b ≡ n * 10 ^ j
  pub first_bare : IsBare m
  pub second_bare : IsBare n

pub cut : (a b m n i j : ℕ) → a ≡ m * 10 ^ i → b ≡ n * 10 ^ j → IsBare m → IsBare n → Cut a b m n i j
cut a b m n i j p q r s = record { first = p; second = q; first_bare = r; second_bare = s }

both_forms : (a b m n i j u v : ℕ) → Cut a b m n i j → a * 10 ^ u ≡ b * 10 ^ v → (m ≡ n) × ((m ≡ 0) ⊎ (i + u ≡ j + v))
both_forms a b m n i j u v c e = one_form m n (i + u) (j + v) c.first_bare c.second_bare (sym (gathered a m i u c.first) ∙ e ∙ gathered b n j v c.second)

one_power : (a u d : ℕ) → a * 10 ^ u * 10 ^ d ≡ a * 10 ^ (u + d)
one_power a u d = mul_assoc a (10 ^ u) (10 ^ d) ∙ ap (λ p. a * p) (sym (pow-add 10 u d))

-- other digits
pub sizes_apart : (a b m n i j u d v e : ℕ) → Cut a b m n i j → (m == n) ≡ false → Decides false (a * 10 ^ u * 10 ^ d ≡ b * 10 ^ v * 10 ^ e)
sizes_apart a b m n i j u d v e c f =
    (λ h. absurd (false≢true h), λ h. sym f ∙ (Decides-eqb m n).1 (both_forms a b m n i j (u + d) (v + e) c (sym (one_power a u d) ∙ h ∙ one_power b v e)).0)

-- the same digits: the exponents decide
pub sizes_by : (a b m n i j u d v e : ℕ) (r : Bool) → Cut a b m n i j → (m == n) ≡ true → (m == 0) ≡ false → Decides r (i + (u + d) ≡ j + (v + e)) → Decides r (a * 10 ^ u * 10 ^ d ≡ b * 10 ^ v * 10 ^ e)
sizes_by a b m n i j u d v e r c f z h = Decides-like r to_sizes to_places h
  where
    to_sizes : i + (u + d) ≡ j + (v + e) → a * 10 ^ u * 10 ^ d ≡ b * 10 ^ v * 10 ^ e
    to_sizes s = one_power a u d ∙ gathered a m i (u + d) c.first ∙ ap₂ (λ k l. k * 10 ^ l) ((Decides-eqb m n).0 f) s ∙ sym (one_power b v e ∙ gathered b n j (v + e) c.second)

    or_zero : (m ≡ 0) ⊎ (i + (u + d) ≡ j + (v + e)) → i + (u + d) ≡ j + (v + e)
    or_zero (inl s) = absurd (false≢true (sym z ∙ (Decides-eqb m 0).1 s))
    or_zero (inr s) = s

    to_places : a * 10 ^ u * 10 ^ d ≡ b * 10 ^ v * 10 ^ e → i + (u + d) ≡ j + (v + e)
    to_places s = or_zero (both_forms a b m n i j (u + d) (v + e) c (sym (one_power a u d) ∙ s ∙ one_power b v e)).1

-- what the sums of the exponents' digits and of the counts of zeros and fractions decide
pub places_by : (x y l z w k i j u v : ℕ) (r : Bool) → r ≡ (x + y + l == z + w + k) → x + y + l ≡ i + u → z + w + k ≡ j + v → Decides r (i + u ≡ j + v)
places_by x y l z w k i j u v r e f g = (λ t. sym f ∙ (Decides-eqb _ _).0 (sym e ∙ t) ∙ g, λ t. e ∙ (Decides-eqb _ _).1 (f ∙ t ∙ sym g))
