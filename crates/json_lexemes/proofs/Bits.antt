-- The bits of a word of 64, one by one.
use Rattle.std.proofs.Common.{◌≡◌, ◌≢◌, ◌⊎◌, ℕ, zero, suc, ◌+◌, ◌-◌, ◌*◌, ◌/◌, ◌%◌, ◌^◌, ◌<◌, ◌≤◌, min, max, Bool, true, false, not, cond, ◌&&◌, ◌||◌, ◌==◌, List, length, map, get_or, inl, inr, refl, sym, ap, ap₂, ◌∙◌, subst, arith, w64, add-zero, add-one, mod-lt, pow_pos}
use Rattle.std.specs.Int.{bit_at}
use Rattle.std.proofs.lemmas.Bool.{cases_lt, true≢false, ne_eqb}
use Rattle.std.proofs.lemmas.List.{get_or-map}
use Rattle.std.proofs.lemmas.Nat.Bits.{bit_at-lt, bit_at-zero, bit_at_and, bit_at_or, bit_at_xor, bit_at_not, bit_at_cat_low, bit_at_cat_high, bit_at-pow_other, shr_and_one, bit_at_above, bit_at_ones_above, bit_at-trailing_zeros}
use Rattle.std.proofs.lemmas.Simd.{bit_mask_l}
use lib.Bits.{bit_and, bit_or, bit_xor, and_le_l}
use lib.Count.{ones, ones_cat, ones-le, ones_step, count_trailing_zeros}
use lib.Lanes.{mask_l}
use lib.Pow.{split, shr_lt}
use mir.Val.{bool_byte}
use Rattle.json.specs.Scan.{test, xor, parity}

-- ---- tests

pub and_true : (b : Bool) → (b && true) ≡ b
and_true true = refl
and_true false = refl

pub and_false : (b : Bool) → (b && false) ≡ false
and_false true = refl
and_false false = refl

pub or_false : (b : Bool) → (b || false) ≡ b
or_false true = refl
or_false false = refl

pub xor_false : (b : Bool) → xor b false ≡ b
xor_false true = refl
xor_false false = refl

-- ---- operations

lifted : (f : ℕ → ℕ → ℕ) (g : Bool → Bool → Bool) → (f 0 0 == 1) ≡ g false false → (f 0 1 == 1) ≡ g false true → (f 1 0 == 1) ≡ g true false → (f 1 1 == 1) ≡ g true true
    → (x y : ℕ) → x < 2 → y < 2 → (f x y == 1) ≡ g (x == 1) (y == 1)
lifted f g a b c d zero zero p q = a
lifted f g a b c d zero (suc zero) p q = b
lifted f g a b c d zero (suc (suc y)) p q = let never : ⊥ = omega arith in absurd never
lifted f g a b c d (suc zero) zero p q = c
lifted f g a b c d (suc zero) (suc zero) p q = d
lifted f g a b c d (suc zero) (suc (suc y)) p q = let never : ⊥ = omega arith in absurd never
lifted f g a b c d (suc (suc x)) y p q = let never : ⊥ = omega arith in absurd never

pub test_and : (a b i : ℕ) → test (bit_and a b) i ≡ (test a i && test b i)
unfolding test
test_and a b i = ap (λ n. n == 1) (bit_at_and a b i) ∙ lifted min (λ x y. x && y) refl refl refl refl (bit_at a i) (bit_at b i) (bit_at-lt a i) (bit_at-lt b i)

pub test_or : (a b i : ℕ) → test (bit_or a b) i ≡ (test a i || test b i)
unfolding test
test_or a b i = ap (λ n. n == 1) (bit_at_or a b i) ∙ lifted max (λ x y. x || y) refl refl refl refl (bit_at a i) (bit_at b i) (bit_at-lt a i) (bit_at-lt b i)

pub test_xor : (a b i : ℕ) → test (bit_xor a b) i ≡ xor (test a i) (test b i)
unfolding test
test_xor a b i = ap (λ n. n == 1) (bit_at_xor a b i) ∙ lifted (λ x y. (x + y) % 2) xor refl refl refl refl (bit_at a i) (bit_at b i) (bit_at-lt a i) (bit_at-lt b i)

abbrev pub flipped : ℕ → ℕ
flipped a = 2 ^ 64 - 1 - a

pub test_not : (a i : ℕ) → a < 2 ^ 64 → i < 64 → test (flipped a) i ≡ not (test a i)
unfolding test
test_not a i h lt = ap (λ n. n == 1) (bit_at_not w64 a i h lt) ∙ lifted (λ x y. 1 - x) (λ x y. not x) refl refl refl refl (bit_at a i) 0 (bit_at-lt a i) (omega arith)

pub flipped_lt : (a : ℕ) → flipped a < 2 ^ 64
flipped_lt a = omega arith

pub test_above : (a i : ℕ) → a < 2 ^ 64 → 64 ≤ i → test a i ≡ false
unfolding test
test_above a i h l = ap (λ n. n == 1) (bit_at_above a 64 i h l)

pub test_zero : (i : ℕ) → test 0 i ≡ false
unfolding test
test_zero i = ap (λ n. n == 1) (bit_at-zero i)

abbrev pub shifted : ℕ → ℕ → ℕ
shifted k y = y * 2 ^ k % 2 ^ 64

test_mod : (k n i : ℕ) → i < k → test (n % 2 ^ k) i ≡ test n i
unfolding test
test_mod k n i h = ap (λ m. m == 1) (sym (bit_at_cat_low (n / 2 ^ k) k (n % 2 ^ k) i h) ∙ ap (λ m. bit_at m i) (split n k))

pub test_down : (x k j : ℕ) → test (x / 2 ^ k) j ≡ test x (k + j)
unfolding test
test_down x k j =
    let back : k + j - k ≡ j = omega arith in
    ap (λ m. m == 1) (sym (ap (bit_at (x / 2 ^ k)) back) ∙ sym (bit_at_cat_high (x / 2 ^ k) k (x % 2 ^ k) (k + j) (mod-lt x (pow_pos k)) (omega arith)) ∙ ap (λ m. bit_at m (k + j)) (split x k))

pub shifted_high : (k j y : ℕ) → k + j < 64 → test (shifted k y) (k + j) ≡ test y j
unfolding test
shifted_high k j y h =
    let back : k + j - k ≡ j = omega arith in
    test_mod 64 (y * 2 ^ k) (k + j) h
    ∙ ap (λ m. m == 1) (ap (λ m. bit_at m (k + j)) (sym (add-zero (y * 2 ^ k))) ∙ bit_at_cat_high y k 0 (k + j) (pow_pos k) (omega arith) ∙ ap (bit_at y) back)

pub shifted_low : (k i y : ℕ) → i < k → i < 64 → test (shifted k y) i ≡ false
unfolding test
shifted_low k i y l h =
    test_mod 64 (y * 2 ^ k) i h
    ∙ ap (λ m. m == 1) (ap (λ m. bit_at m i) (sym (add-zero (y * 2 ^ k))) ∙ bit_at_cat_low y k 0 i l ∙ bit_at-zero i)

pub shifted_one : (i y : ℕ) → suc i < 64 → test (shifted 1 y) (suc i) ≡ test y i
shifted_one i y h = let e : 1 + i ≡ suc i = omega arith in ap (test (shifted 1 y)) (sym e) ∙ shifted_high 1 i y (omega arith)

pub flag_first : (b : Bool) → test (bool_byte b) 0 ≡ b
unfolding test
flag_first true = refl
flag_first false = refl

pub flag_next : (b : Bool) (i : ℕ) → test (bool_byte b) (suc i) ≡ false
unfolding test
flag_next true i = ap (λ n. n == 1) (bit_at-pow_other 0 (suc i) (λ e. absurd (omega (arith, e))))
flag_next false i = test_zero (suc i)

pub flag_lt : (b : Bool) → bool_byte b < 2 ^ 64
flag_lt true = omega arith
flag_lt false = omega arith

pub top_bit : (x : ℕ) → x < 2 ^ 64 → (x / 2 ^ 63 == 1) ≡ test x 63
unfolding test
top_bit x h = let e : x / 2 ^ 63 ≡ x / 2 ^ 63 % 2 = omega arith in ap (λ n. n == 1) e

-- the mask of the bytes that pass p
pub test_mask : (p : ℕ → Bool) (v : List ℕ) (i : ℕ) → i < length v → test (mask_l (map p v)) i ≡ p (get_or v i 0)
unfolding test
test_mask p v i h = ap (λ n. n == 1) (bit_mask_l (map p v) i) ∙ as_bool (get_or (map p v) i false) ∙ get_or-map p v i 0 false h
  where
    as_bool : (b : Bool) → (cond b 1 0 == 1) ≡ b
    as_bool true = refl
    as_bool false = refl

-- ---- the parity of the bits up to each

xor_twice : (a b : Bool) → b ≡ xor (xor a b) a
xor_twice true true = refl
xor_twice true false = refl
xor_twice false true = refl
xor_twice false false = refl

xor_joins : (a b c : Bool) → xor (xor a b) (xor b c) ≡ xor a c
xor_joins true true c = refl
xor_joins false false c = refl
xor_joins true false c = refl
xor_joins false true true = refl
xor_joins false true false = refl

-- bit i of y is the parity of the k bits of x up to i
abbrev Gathers : ℕ → ℕ → ℕ → Type 0
Gathers x k y = (i : ℕ) → i < 64 → test y i ≡ xor (parity x (suc i)) (parity x (suc i - k))

abbrev pub folded : ℕ → ℕ → ℕ
folded k y = bit_xor y (shifted k y)

gathers_one : (x : ℕ) → Gathers x 1 x
unfolding parity
gathers_one x i h = let e : suc i - 1 ≡ i = omega arith in xor_twice (parity x i) (test x i) ∙ ap (λ n. xor (parity x (suc i)) (parity x n)) (sym e)

gathers_twice : (x k y : ℕ) → Gathers x k y → Gathers x (k + k) (folded k y)
unfolding parity
gathers_twice x k y g i h = test_xor y (shifted k y) i ∙ by_place (cases_lt i k)
  where
    by_place : (i < k) ⊎ (k ≤ i) → xor (test y i) (test (shifted k y) i) ≡ xor (parity x (suc i)) (parity x (suc i - (k + k)))
    by_place (inl l) =
        let e : suc i - k ≡ suc i - (k + k) = omega arith in
        ap (xor (test y i)) (shifted_low k i y l h) ∙ xor_false (test y i) ∙ g i h ∙ ap (λ n. xor (parity x (suc i)) (parity x n)) e
    by_place (inr m) =
        let j = i - k in
        let there : i ≡ k + j = omega arith in
        let here : suc i - k ≡ suc j = omega arith in
        let behind : suc j - k ≡ suc i - (k + k) = omega arith in
        ap₂ xor (g i h ∙ ap (λ n. xor (parity x (suc i)) (parity x n)) here) (ap (test (shifted k y)) there ∙ shifted_high k j y (omega arith) ∙ g j (omega arith) ∙ ap (λ n. xor (parity x (suc j)) (parity x n)) behind)
        ∙ xor_joins (parity x (suc i)) (parity x (suc j)) (parity x (suc i - (k + k)))

pub prefix_parity : (x i : ℕ) → i < 64 → test (folded 32 (folded 16 (folded 8 (folded 4 (folded 2 (folded 1 x)))))) i ≡ parity x (i + 1)
unfolding parity
prefix_parity x i h =
    let e : suc i - 64 ≡ 0 = omega arith in
    gathers_twice x 32 _ (gathers_twice x 16 _ (gathers_twice x 8 _ (gathers_twice x 4 _ (gathers_twice x 2 _ (gathers_twice x 1 x (gathers_one x)))))) i h
    ∙ ap (λ n. xor (parity x (suc i)) (parity x n)) e ∙ xor_false (parity x (suc i)) ∙ ap (parity x) (sym (add-one i))

-- ---- how many are set

-- of the i lowest
unfoldable pub set_below : ℕ → ℕ → ℕ
set_below x zero = 0
set_below x (suc i) = set_below x i + cond (test x i) 1 0

same_below : (x y i : ℕ) → ((j : ℕ) → j < i → test x j ≡ test y j) → set_below x i ≡ set_below y i
unfolding set_below
same_below x y zero h = refl
same_below x y (suc i) h = ap₂ (λ n b. n + cond b 1 0) (same_below x y i (λ j lt. h j (omega arith))) (h i (omega arith))

few : (n : ℕ) → n < 2 → ones n ≡ cond (n == 1) 1 0
few zero h = let e = ones-le 0 0 (omega arith) in omega (arith, e)
few (suc zero) h = let e = ones_step 1 in let f = ones-le 0 0 (omega arith) in omega (arith, e, f)
few (suc (suc n)) h = let never : ⊥ = omega arith in absurd never

pub ones_below : (k x : ℕ) → x < 2 ^ k → ones x ≡ set_below x k
unfolding set_below test
ones_below zero x h = let e : x ≡ 0 = omega arith in ap ones e ∙ few 0 (omega arith)
ones_below (suc k) x h =
    let low : x % 2 ^ k < 2 ^ k = mod-lt x (pow_pos k) in
    let top : x / 2 ^ k < 2 = half k x h in
    let bit : bit_at x k ≡ x / 2 ^ k = one (x / 2 ^ k) top in
    ap ones (sym (split x k)) ∙ ones_cat k (x / 2 ^ k) (x % 2 ^ k) low
    ∙ ap₂ (λ a b. a + b) (few (x / 2 ^ k) top ∙ ap (λ n. cond (n == 1) 1 0) (sym bit)) (ones_below k (x % 2 ^ k) low ∙ same_below (x % 2 ^ k) x k (λ j lt. test_mod k x j lt))
    ∙ swapped (cond (bit_at x k == 1) 1 0) (set_below x k)
  where
    swapped : (a b : ℕ) → a + b ≡ b + a
    swapped a b = omega arith

    one : (n : ℕ) → n < 2 → n % 2 ≡ n
    one n lt = omega arith

    half : (k x : ℕ) → x < 2 ^ suc k → x / 2 ^ k < 2
    half k x lt = let e : suc k ≡ 1 + k = omega arith in shr_lt 1 k (subst (λ w. x < 2 ^ w) e lt)

pub below_within : (x i k : ℕ) → i ≤ k → set_below x i ≤ set_below x k
unfolding set_below
below_within x i zero h = let e : i ≡ 0 = omega arith in let f = ap (set_below x) e in omega (arith, f)
below_within x i (suc k) h = by_place (cases_lt i (suc k)) (λ l. below_within x i k l)
  where
    by_place : (i < suc k) ⊎ (suc k ≤ i) → (i ≤ k → set_below x i ≤ set_below x k) → set_below x i ≤ set_below x (suc k)
    by_place (inl l) ih = let f = ih (omega arith) in omega (arith, f)
    by_place (inr m) ih = let e : i ≡ suc k = omega arith in let f = ap (set_below x) e in omega (arith, f)

-- ---- the lowest

pub record IsLowest (x i : ℕ) : Type 0 where
  pub within : i < 64
  pub here : test x i ≡ true
  pub below : (j : ℕ) → j < i → test x j ≡ false

pub lowest : (x : ℕ) → 0 < x → x < 2 ^ 64 → IsLowest x (count_trailing_zeros 64 x)
unfolding test
lowest x p h = let f = bit_at-trailing_zeros w64 x p h in record { within = f.0; here = ap (λ n. n == 1) f.1; below = λ j lt. ap (λ n. n == 1) (f.2 j lt) }

-- without it the word is less
pub less_without : (x y i : ℕ) → test x i ≡ true → test (bit_and x y) i ≡ false → bit_and x y < x
less_without x y i s n = by_size (cases_lt (bit_and x y) x)
  where
    by_size : (bit_and x y < x) ⊎ (x ≤ bit_and x y) → bit_and x y < x
    by_size (inl l) = l
    by_size (inr m) =
        let same : bit_and x y ≡ x = omega (arith, m, and_le_l x y) in
        absurd (true≢false (sym s ∙ ap (λ z. test z i) (sym same) ∙ n))

-- ---- words of one or two bits

pub two_bits : (d : ℕ) → test 2 (suc (suc d)) ≡ false
unfolding test
two_bits d = ap (λ n. n == 1) (bit_at-pow_other 1 (suc (suc d)) (λ e. absurd (omega (arith, e))))

pub three_bits : (d : ℕ) → test 3 (suc (suc d)) ≡ false
unfolding test
three_bits d = ap (λ n. n == 1) (bit_at_ones_above 2 (suc (suc d)) (omega arith))

pub one_bits : (d : ℕ) → test 1 (suc d) ≡ false
unfolding test
one_bits d = ap (λ n. n == 1) (bit_at-pow_other 0 (suc d) (λ e. absurd (omega (arith, e))))

pub low_bits : (test 1 0 ≡ true) × (test 2 0 ≡ false) × (test 2 1 ≡ true) × (test 3 0 ≡ true) × (test 3 1 ≡ true)
unfolding test
low_bits = (refl, refl, refl, refl, refl)

-- a bit of y, moved up by i
pub moved : (i d j y : ℕ) → j ≡ i + d → j < 64 → test (shifted i y) j ≡ test y d
moved i d j y e h = ap (test (shifted i y)) e ∙ shifted_high i d y (omega (arith, e))

pub not_moved : (x i d j y : ℕ) → j ≡ i + d → j < 64 → test (bit_and x (flipped (shifted i y))) j ≡ (test x j && not (test y d))
not_moved x i d j y e h = test_and x _ j ∙ ap (λ b. test x j && b) (test_not (shifted i y) j (mod-lt (y * 2 ^ i) (pow_pos 64)) h ∙ ap not (moved i d j y e h))

pub not_moved_low : (x i j y : ℕ) → j < i → j < 64 → test (bit_and x (flipped (shifted i y))) j ≡ test x j
not_moved_low x i j y l h =
    test_and x _ j ∙ ap (λ b. test x j && b) (test_not (shifted i y) j (mod-lt (y * 2 ^ i) (pow_pos 64)) h ∙ ap not (shifted_low i j y l h)) ∙ and_true (test x j)

-- ---- a bit that is shifted down

pub set_by_shift : (x i : ℕ) → bit_and (x / 2 ^ i) 1 ≡ 1 → test x i ≡ true
unfolding test
set_by_shift x i h = ap (λ n. n == 1) (sym (shr_and_one x i) ∙ h)

pub clear_by_shift : (x i : ℕ) → bit_and (x / 2 ^ i) 1 ≢ 1 → test x i ≡ false
unfolding test
clear_by_shift x i h = ne_eqb (bit_at x i) 1 (λ e. h (shr_and_one x i ∙ e))

-- and one that is cleared
pub cleared : (x i : ℕ) → i < 64 → test (bit_and x (flipped (shifted i 1))) i ≡ false
cleared x i h = not_moved x i 0 i 1 (sym (add-zero i)) h ∙ ap (λ v. test x i && not v) low_bits.0 ∙ and_false (test x i)
