-- Bytes of a string that are tested beside each other.
use Rattle.std.proofs.Common.{◌≡◌, ℕ, zero, suc, ◌+◌, ◌-◌, ◌*◌, ◌<◌, ◌≤◌, ◌^◌, ◌%◌, Bool, true, false, not, cond, ◌⊎◌, inl, inr, List, [], ◌∷◌, map, length, drop, get_or, refl, sym, ap, ap₂, ◌∙◌, subst, arith, w8, Fits, eqb, leb, ltb}
use Rattle.std.proofs.lemmas.Bool.{agree_below, agree_below_at, cases_lt, not-false, not-true}
use Rattle.std.proofs.lemmas.List.{length-map, length-drop, get_or-drop}
use Rattle.std.proofs.lemmas.List.Sums.{prefix_len_is, prefix_len-le-length}
use Rattle.std.specs.List.{prefix_len}
use Rattle.std.specs.Char.{is_ascii_digit}
use Rattle.std.proofs.lemmas.Simd.{map-map, mask_l-mod, trailing_mask_l, length-chunk, run_in_chunk_le, run_in_chunk_fails, run_in_chunk_stops, none_from_empty_mask}
use lib.Bits.{bit_or}
use lib.Count.{count_trailing_zeros}
use lib.Lanes.{Each1, chunk, mask_l, top}
use Rattle.json_lexemes.specs.Grammar.{is_no_digit, IsFree}

-- what the three comparisons of a byte leave
abbrev pub compared : ℕ → ℕ
compared x = bit_or (bit_or (cond (eqb x 34) 255 0) (cond (eqb x 92) 255 0)) (cond (ltb x 32) 255 0)

-- what one comparison with a quote leaves
abbrev pub quoted : ℕ → ℕ
quoted x = cond (eqb x 34) 255 0

-- what those with a quote and the brackets leave
abbrev pub marked : ℕ → ℕ
marked x = bit_or (bit_or (cond (eqb (bit_or x 32) 123) 255 0) (cond (eqb (bit_or x 32) 125) 255 0)) (cond (eqb x 34) 255 0)

-- and what those of a digit leave
abbrev pub shifted : ℕ → ℕ
shifted x = cond (leb 10 ((x + (256 - 48)) % 256)) 255 0

each_byte : (f : ℕ → ℕ) (p : ℕ → Bool) → agree_below (λ y. top 7 (f y)) p 256 ≡ true → (v : List ℕ) → Each1 (Fits w8) v → map (λ x. top 7 (f x)) v ≡ map p v
each_byte f p all [] fits = refl
each_byte f p all (x ∷ v) fits = ap₂ (λ b bs. b ∷ bs) (agree_below_at (λ y. top 7 (f y)) p 256 x all fits.0.fits) (each_byte f p all v fits.1)

-- the mask of the bytes that pass p
pub mask_is : (f : ℕ → ℕ) (p : ℕ → Bool) → agree_below (λ y. top 7 (f y)) p 256 ≡ true → (v z : List ℕ) → length v ≤ 64 → Each1 (Fits w8) v → z ≡ map f v → mask_l (map (top 7) z) % 2 ^ 64 ≡ mask_l (map p v)
mask_is f p all v z short fits e =
    ap (λ bs. mask_l bs % 2 ^ 64) (ap (map (top 7)) e ∙ map-map (top 7) f v ∙ each_byte f p all v fits) ∙ mask_l-mod (map p v) 64 (omega (arith, length-map v p, short))

-- ---- from one load to the next

pub free_on : (p : ℕ → Bool) (t : List ℕ) (from i k : ℕ) → IsFree p t from i → IsFree p t i k → IsFree p t from k
free_on p t from i k a b j le lt = by_place (cases_lt j i)
  where
    by_place : (j < i) ⊎ (i ≤ j) → p (get_or t j 0) ≡ false
    by_place (inl h) = a j le h
    by_place (inr h) = b j h lt

pub free_load : (p : ℕ → Bool) (t : List ℕ) (i : ℕ) → i + 16 ≤ length t → mask_l (map p (chunk i 16 t)) ≡ 0 → IsFree p t i (i + 16)
free_load p t i room none = none_from_empty_mask p t i 16 0 room none

-- what one such byte more leaves true, several do
pub free_along : (R : ℕ → Type 0) (p : ℕ → Bool) (t : List ℕ) (i n k : ℕ) → k ≡ i + n → k ≤ length t → ((j : ℕ) → i ≤ j → j < length t → p (get_or t j 0) ≡ false → R j → R (j + 1)) → IsFree p t i k → R i → R k
free_along R p t i zero k e h step free r = let same : i ≡ k = omega (arith, e) in subst R same r
free_along R p t i (suc n) k e h step free r =
    let j = i + n in
    let next : j + 1 ≡ k = omega (arith, e) in
    let before = free_along R p t i n j refl (omega (arith, e, h)) step (λ m le lt. free m le (omega (arith, e, lt))) r in
    subst R next (step j (omega arith) (omega (arith, next, h)) (free j (omega arith) (omega (arith, next))) before)

none_first : (b : Bool) (n l m : ℕ) → n ≤ l → cond (not b) (1 + n) 0 ≡ suc l → (n ≡ l → m ≡ 0) → cond b 1 0 + 2 * m ≡ 0
none_first true n l m le e f = let never : ⊥ = omega arith in absurd never
none_first false n l m le e f = let z = f (omega arith) in omega (arith, z)

-- where no byte passes, the mask is empty
none_set : (p : ℕ → Bool) (xs : List ℕ) → prefix_len (λ x. not (p x)) xs ≡ length xs → mask_l (map p xs) ≡ 0
none_set p [] e = refl
none_set p (x ∷ xs) e = none_first (p x) _ (length xs) _ (prefix_len-le-length (λ y. not (p y)) xs) e (none_set p xs)

pub record Stops (p : ℕ → Bool) (t : List ℕ) (i r : ℕ) : Type 0 where
  pub within : r < 16
  pub free : IsFree p t i (i + r)
  pub stops : p (get_or t (i + r) 0) ≡ true

pub free_stops : (p : ℕ → Bool) (t : List ℕ) (i r : ℕ) → i + 16 ≤ length t → 0 < mask_l (map p (chunk i 16 t)) → r ≡ count_trailing_zeros 64 (mask_l (map p (chunk i 16 t))) → Stops p t i r
free_stops p t i r room some e =
    let long = length-chunk i 16 t room in
    let counted = e ∙ trailing_mask_l p 64 (chunk i 16 t) (omega (arith, long)) some in
    let most = run_in_chunk_le p t i 16 r 0 room counted in
    let less : r < 16 = below r most (λ full. none_set p (chunk i 16 t) (sym counted ∙ full ∙ sym long)) in
    record { within = less; free = run_in_chunk_fails p t i 16 r 0 room counted; stops = run_in_chunk_stops p t i 16 r 0 room counted less }
  where
    below : (r : ℕ) → r ≤ 16 → (r ≡ 16 → mask_l (map p (chunk i 16 t)) ≡ 0) → r < 16
    below r most f = by_size (cases_lt r 16)
      where
        by_size : (r < 16) ⊎ (16 ≤ r) → r < 16
        by_size (inl h) = h
        by_size (inr h) = let none = f (omega (arith, most, h)) in let never : ⊥ = omega (arith, none, some) in absurd never

-- ---- digits

pub digits_run : (t : List ℕ) (from k : ℕ) → from ≤ k → k ≤ length t → IsFree is_no_digit t from k → (k < length t → is_no_digit (get_or t k 0) ≡ true) → k ≡ from + prefix_len is_ascii_digit (drop from t)
digits_run t from k low high free stops =
    let n = k - from in
    let there : from + n ≡ k = omega (arith, low) in
    let run = prefix_len_is is_ascii_digit (drop from t) n 0 (omega (arith, length-drop from t, low, high))
    (λ j lt. not-false _ (ap is_no_digit (get_or-drop from t j 0) ∙ free (from + j) (omega arith) (omega (arith, lt, there))))
    (λ lt. not-true _ (ap is_no_digit (get_or-drop from t n 0 ∙ ap (λ m. get_or t m 0) there) ∙ stops (omega (arith, lt, length-drop from t, there)))) in
    omega (arith, run, low)
