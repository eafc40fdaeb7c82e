-- The names that seams have, and an index of them.
use Rattle.std.specs.Prelude.{◌≡◌, ℕ, List, [], ◌∷◌, Option, Some, None, ⊤}
use mathlib.Core.Path.{refl}
use Rattle.std.specs.String.{string_bytes}
use Rattle.json.specs.Json.{string}
use Rattle.json_text.specs.Listing.{IsTextOf}
use Rattle.json_text.specs.Rows.{Child}
use Rattle.json_pieces.specs.Marks.{Fits}
use Rattle.json_pieces.specs.declared.index.NameIndex.{NameIndex}
use Rattle.json_pieces.specs.declared.seams.Seam.{Seam}
use Rattle.json_pieces.specs.declared.text.Text.{Text}
use Rattle.json_pieces.specs.declared.text.Text.TheVariants.{Empty, Kept, Made}

abbrev pub text_bytes : Text → List ℕ
text_bytes Empty = []
text_bytes (Kept s) = s.text.now
text_bytes (Made s) = string_bytes s

-- the seams have these children's names
abbrev pub AreNames : List Seam → List Child → Type 0
AreNames [] [] = ⊤
AreNames [] (c ∷ cs) = ⊥
AreNames (s ∷ ss) [] = ⊥
AreNames (s ∷ ss) (c ∷ cs) = IsTextOf (text_bytes s.name) (string c.0) × AreNames ss cs

-- each seam's text says the name that stands here, or none
abbrev pub AreSaid : List Seam → List (List ℕ) → Type 0
AreSaid [] [] = ⊤
AreSaid [] (n ∷ ns) = ⊥
AreSaid (s ∷ ss) [] = ⊥
AreSaid (s ∷ ss) (n ∷ ns) = ((l : List ℕ) → IsTextOf (text_bytes s.name) (string l) → l ≡ n) × AreSaid ss ns

-- the index is that of these seams
abbrev pub IsIndexOf : List Seam → NameIndex → Type 0
IsIndexOf ss x = ∥ ((ns : List (List ℕ)) × AreSaid ss ns × Fits x ns) ∥₁

-- the same, if there is one
abbrev pub Agrees : List Seam → Option NameIndex → Type 0
Agrees ss None = ⊤
Agrees ss (Some x) = IsIndexOf ss x

pub Agrees-prop : (ss : List Seam) (o : Option NameIndex) → IsProp (Agrees ss o)
Agrees-prop ss None p q = refl
Agrees-prop ss (Some x) p q = squash₁ p q
