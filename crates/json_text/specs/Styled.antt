-- What a new member or element takes over from a neighbour: at most so many bytes of whitespace.
use Rattle.std.specs.Prelude.{ℕ, List, [], ◌∷◌, length, if◌then◌else◌, nat_le}

abbrev pub most_whitespace : ℕ
most_whitespace = 128

-- its whitespace, by that of the neighbour: none, if that is more
abbrev pub whitespace_like : List ℕ → List ℕ
whitespace_like s = if nat_le (length s) most_whitespace then s else []

-- its colon with the whitespace around it, by the neighbour's: bare, if that is more
abbrev pub colons_like : List ℕ → List ℕ
colons_like s = if nat_le (length s) most_whitespace then s else (58 ∷ [])
