-- What is taken over from a neighbour, by cases.
use Rattle.std.proofs.Common.{ℕ, Bool, true, false, List, [], ◌∷◌, length}
use Rattle.std.specs.Prelude.{if◌then◌else◌, nat_le}
use Rattle.json_text.specs.Styled.{colons_like, most_whitespace, whitespace_like}

-- what holds of the whitespace and of none holds of what is taken over
pub by_whitespace : (P : List ℕ → Type 0) (s : List ℕ) → P s → P [] → P (whitespace_like s)
by_whitespace P s h e = by_case (nat_le (length s) most_whitespace)
  where
    by_case : (b : Bool) → P (if b then s else [])
    by_case true = h
    by_case false = e

-- and what holds of the colon and of a bare one
pub by_colons : (P : List ℕ → Type 0) (s : List ℕ) → P s → P (58 ∷ []) → P (colons_like s)
by_colons P s h e = by_case (nat_le (length s) most_whitespace)
  where
    by_case : (b : Bool) → P (if b then s else (58 ∷ []))
    by_case true = h
    by_case false = e
