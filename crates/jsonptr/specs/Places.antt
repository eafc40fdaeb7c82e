-- The index that a token names in an array (RFC 6901, section 4).
use Rattle.std.specs.Prelude.{ℕ, zero, suc, ◌+◌, List, [], ◌∷◌, map, length, slice_index, ◌==◌, ◌&&◌, ◌||◌, not, nat_lt}
use Rattle.std.specs.Prelude.{Option, Some, None, if◌then◌else◌}
use Rattle.std.specs.Int.Digits.{digits_of}
use Rattle.std.specs.Str.{all_ascii_digits}
use Rattle.std.specs.Str.Parse.{digits_value}

-- the index that a token names: the token is `0`, or digits without a leading zero, of any length;
-- no other token names one. 48 is the character `0`
unfoldable pub place_of : List ℕ → Option ℕ
place_of t =
    if all_ascii_digits t && nat_lt 0 (length t) && (length t == 1 || not (slice_index t 0 == 48))
    then Some (digits_value 10 t) else None

-- the token that names an index: its decimal text, of any length
abbrev pub decimal_token : ℕ → List ℕ
decimal_token zero = 48 ∷ []
decimal_token (suc n) = map (λ x. 48 + x) (digits_of 10 (suc n))

-- the token `-`, for the index after the last element, at which nothing stands
abbrev pub next_token : List ℕ
next_token = 45 ∷ []
