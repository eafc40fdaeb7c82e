-- What stands around a value, and how long it is.
use Rattle.std.specs.Prelude.{◌≡◌, ℕ, ◌+◌, List, [], length, slice_index_or, slice_set}
use Rattle.json_pieces.specs.Nodes.{text_bytes}
use Rattle.json_pieces.specs.declared.seams.Seam.{Seam}
use Rattle.json_pieces.specs.declared.text.Text.{Text}

abbrev pub seam_length : Seam → ℕ
seam_length s = length (text_bytes s.whitespace) + length (text_bytes s.name) + length (text_bytes s.colons) + length (text_bytes s.trail)

-- of the seams old that of this number has lost what is behind it, the text trail
pub record HasLost (old : List Seam) (number : ℕ) (trail : Text) (new : List Seam) : Type 0 where
  pub seam : Seam
  pub is : seam ≡ slice_index_or old number seam
  pub trail_is : trail ≡ seam.trail
  pub none : Text
  pub empty : text_bytes none ≡ []
  pub left : new ≡ slice_set old number (record { whitespace = seam.whitespace; name = seam.name; colons = seam.colons; trail = none })

-- that of this number has other whitespace before it, of these bytes, in place of the text old_whitespace
pub record HasGained (old : List Seam) (number : ℕ) (bytes : List ℕ) (old_whitespace : Text) (new : List Seam) : Type 0 where
  pub seam : Seam
  pub is : seam ≡ slice_index_or old number seam
  pub whitespace_is : old_whitespace ≡ seam.whitespace
  pub given : Text
  pub has : text_bytes given ≡ bytes
  pub left : new ≡ slice_set old number (record { whitespace = given; name = seam.name; colons = seam.colons; trail = seam.trail })
