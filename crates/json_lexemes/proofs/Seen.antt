-- The bytes that don't stand for themselves in a string, by the bits of 64.
use Rattle.std.proofs.Common.{◌≡◌, ◌≢◌, ℕ, ◌+◌, ◌-◌, ◌/◌, ◌^◌, ◌<◌, ◌≤◌, true, List, length, get_or, sym, ap, ◌∙◌, inl, inr, ◌⊎◌, arith}
use Rattle.std.proofs.lemmas.Bool.{cases_lt, true≢false, false≢true}
use lib.Count.{count_trailing_zeros}
use Rattle.std.proofs.Math.Nat.{div-le_self}
use Rattle.json.specs.Scan.{test}
use Rattle.json_lexemes.specs.Grammar.{is_stop, AreStops, IsFree}
use Rattle.json_lexemes.proofs.Bits.{test_down, test_above, test_zero, lowest}

-- the first of those seen, of which b are before `from`
pub record IsSeen (t : List ℕ) (from r : ℕ) : Type 0 where
  pub within : from + r < length t
  pub free : IsFree is_stop t from (from + r)

pub first_seen : (t : List ℕ) (base bits from b : ℕ) → AreStops t base bits → (base + 64 ≤ length t → from ≡ base + b) → bits < 2 ^ 64 → bits / 2 ^ b ≢ 0 → IsSeen t from (count_trailing_zeros 64 (bits / 2 ^ b))
first_seen t base bits from b stops same small some =
    let left = bits / 2 ^ b in
    let r = count_trailing_zeros 64 left in
    let positive : 0 < left = omega (arith, some) in
    let less = div-le_self bits (2 ^ b) in
    let low = lowest left positive (omega (arith, less, small)) in
    let here : test bits (b + r) ≡ true = sym (test_down bits b r) ∙ low.here in
    let s = stops (λ z. true≢false (sym here ∙ ap (λ x. test x (b + r)) z ∙ test_zero (b + r))) in
    let at : from ≡ base + b = same s.0 in
    let inside : b + r < 64 = by_place here (cases_lt (b + r) 64) in
    record {
      within = omega (arith, at, inside, s.0);
      free = λ k le lt.
          let j = k - from in
          let there : base + (b + j) ≡ k = omega (arith, at, le) in
          let low_place : b + j < 64 = omega (arith, inside, le, lt) in
          ap (λ m. is_stop (get_or t m 0)) (sym there) ∙ sym (s.1 (b + j) low_place) ∙ sym (test_down bits b j) ∙ low.below j (omega (arith, le, lt));
    }
  where
    by_place : test bits (b + count_trailing_zeros 64 (bits / 2 ^ b)) ≡ true → (b + count_trailing_zeros 64 (bits / 2 ^ b) < 64) ⊎ (64 ≤ b + count_trailing_zeros 64 (bits / 2 ^ b)) → b + count_trailing_zeros 64 (bits / 2 ^ b) < 64
    by_place h (inl l) = l
    by_place h (inr m) = absurd (false≢true (sym (test_above bits _ small m) ∙ h))
