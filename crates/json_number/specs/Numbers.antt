-- Which texts of numbers are of one and the same number: 1.5, 1.50 and 15e-1; 1.0 and 1; 0, -0 and 0e5. No float is rounded, and no exponent is too long.
use Rattle.std.specs.Prelude.{◌≡◌, ◌⊎◌, ◌==◌, ◌*◌, ◌^◌, ℕ, List, Bool, if◌then◌else◌, drop, slice_index}
use Rattle.fast_float.specs.Text.{minus, Parts, scan, digits_of, tens_up, tens_down}

abbrev pub is_negative : List ℕ → Bool
is_negative s = slice_index s 0 == minus

-- the text behind the sign, in parts
abbrev pub parts_of : List ℕ → Parts
parts_of s = scan (if is_negative s then drop 1 s else s)

-- The size is numerator p / denominator p: 12.5e3 is 125 * 10 ^ 3 / 10 ^ 1.
abbrev pub numerator : Parts → ℕ
numerator p = digits_of p * 10 ^ tens_up p

abbrev pub denominator : Parts → ℕ
denominator p = 10 ^ tens_down p

abbrev pub IsZero : Parts → Type 0
IsZero p = digits_of p ≡ 0

-- the two fractions are equal, each multiplied by both denominators
abbrev pub SameSize : Parts → Parts → Type 0
SameSize p q = numerator p * denominator q ≡ numerator q * denominator p

abbrev pub SameNumber : List ℕ → List ℕ → Type 0
SameNumber s t = SameSize (parts_of s) (parts_of t) × ((is_negative s ≡ is_negative t) ⊎ IsZero (parts_of s))
