-- What stands around a value, exchanged.
use Rattle.std.specs.Prelude.{◌≡◌, ℕ, List, slice_index_or, slice_set}
use Rattle.json_pieces.specs.declared.seams.Seam.{Seam}
use Rattle.json_pieces.specs.declared.text.Text.{Text}

-- with other whitespace before the value, and with other behind it
abbrev pub with_whitespace : Text → Seam → Seam
with_whitespace x s = record { whitespace = x; name = s.name; colons = s.colons; trail = s.trail }

abbrev pub with_trail : Text → Seam → Seam
with_trail x s = record { whitespace = s.whitespace; name = s.name; colons = s.colons; trail = x }

-- of the seams old that of this number has the whitespace given before its value, in place of taken
pub record HasWhitespace (old : List Seam) (number : ℕ) (given taken : Text) (new : List Seam) : Type 0 where
  pub seam : Seam
  pub is : seam ≡ slice_index_or old number seam
  pub taken_is : taken ≡ seam.whitespace
  pub left : new ≡ slice_set old number (with_whitespace given seam)

-- the same behind its value
pub record HasTrail (old : List Seam) (number : ℕ) (given taken : Text) (new : List Seam) : Type 0 where
  pub seam : Seam
  pub is : seam ≡ slice_index_or old number seam
  pub taken_is : taken ≡ seam.trail
  pub left : new ≡ slice_set old number (with_trail given seam)
