-- Digits, from the last to the first.
use Rattle.std.specs.Prelude.{◌≡◌, ◌⊎◌, ◌≢◌, ◌-◌, ◌%◌, ℕ, List, [], ◌++◌, take, length, if◌then◌else◌}
use Rattle.std.specs.Str.Parse.{digits_value}
use Rattle.fast_float.specs.Text.{Parts}

-- the number that is left of the digits once the last i are cut off
abbrev pub front : List ℕ → ℕ → ℕ
front ds i = digits_value 10 (take (length ds - i) ds)

abbrev pub digits : Parts → List ℕ
digits p = p.whole ++ p.fraction

-- the exponent's digits where it moves the point to the right, and those where it moves it to the left
abbrev pub raising : Parts → List ℕ
raising p = if p.exponent_negative then [] else p.exponent

abbrev pub lowering : Parts → List ℕ
lowering p = if p.exponent_negative then p.exponent else []

-- no zero at its end, but for zero itself
abbrev pub IsBare : ℕ → Type 0
IsBare m = (m ≡ 0) ⊎ (m % 10 ≢ 0)
