-- Changes of a text in place, one after another: every other byte is kept.
use Rattle.std.specs.Prelude.{◌≡◌, ℕ, List, [], ◌∷◌}
use Rattle.jsonptr.specs.Text.{Pointer}
use Rattle.json_text.specs.Added.{IsAdded}
use Rattle.json_text.specs.Removed.{IsRemoved}
use Rattle.json_text.specs.Replaced.{IsReplaced}

-- with the text of its value
pub data TextChange : Type 0 where
  add : Pointer → List ℕ → TextChange
  remove : Pointer → TextChange
  replace : Pointer → List ℕ → TextChange

-- new is the text with this change
abbrev pub IsMade : List ℕ → TextChange → List ℕ → Type 0
IsMade text (add P s) new = IsAdded text P s new
IsMade text (remove P) new = IsRemoved text P new
IsMade text (replace P s) new = IsReplaced text P s new

-- and with each of these, in turn
abbrev pub AreMade : List ℕ → List TextChange → List ℕ → Type 0
AreMade text [] new = new ≡ text
AreMade text (c ∷ cs) new = (next : List ℕ) × IsMade text c next × AreMade next cs new
