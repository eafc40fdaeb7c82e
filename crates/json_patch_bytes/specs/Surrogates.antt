-- Why bytes aren't read as JSON: an unpaired surrogate, which the grammar takes, such as \ud800, but which stands for no
-- character (RFC 8259, sections 7 and 8.2).
use Rattle.std.specs.Prelude.{◌≡◌, ◌≤◌, ◌<◌, ◌+◌, ◌⊎◌, ℕ, List, [], ◌∷◌, Some, IsUtf8, get_or, length}
use Rattle.json.specs.Json.{Json}
use Rattle.json.specs.Text.{code_unit}
use Rattle.json_lexemes.specs.Spelled.{Says}
use Rattle.json_patch_bytes.specs.declared.kinds.TheConstants.{NOT_JSON, UNPAIRED_SURROGATE}

-- these are the four digits of a surrogate
abbrev pub SpellSurrogate : ℕ → ℕ → ℕ → ℕ → Type 0
SpellSurrogate a b c d = (u : ℕ) × (code_unit a b c d ≡ Some u) × (0xd800 ≤ u) × (u < 0xe000)

-- the second text is the first with \ufffd in the place of some escapes of surrogates
pub data IsMended : List ℕ → List ℕ → Type 0 where
  ends : IsMended [] []
  keeps : (c : ℕ) {text new : List ℕ} → IsMended text new → IsMended (c ∷ text) (c ∷ new)
  mends : {a b c d : ℕ} {text new : List ℕ} → SpellSurrogate a b c d → IsMended text new
      → IsMended (92 ∷ 117 ∷ a ∷ b ∷ c ∷ d ∷ text) (92 ∷ 117 ∷ 102 ∷ 102 ∷ 102 ∷ 100 ∷ new)

-- the bytes are UTF-8 and JSON, whatever numbers they have
abbrev pub IsSaying : List ℕ → Type 0
IsSaying text = IsUtf8 text × ((j : Json) × Says text j)

-- they would be JSON with \ufffd in the place of some surrogates
abbrev pub HasUnpaired : List ℕ → Type 0
HasUnpaired text = (mended : List ℕ) × IsMended text mended × IsSaying mended

-- what is told of bytes that aren't read: surrogates keep them from being JSON, or else they are none
abbrev pub IsNoJsonKind : List ℕ → ℕ → Type 0
IsNoJsonKind text kind = (kind ≡ NOT_JSON) ⊎ ((kind ≡ UNPAIRED_SURROGATE) × HasUnpaired text)

-- for private clauses: at this place of the text an escape of a surrogate stands
abbrev pub StandsSurrogate : List ℕ → ℕ → Type 0
StandsSurrogate text at = (at + 6 ≤ length text) × (get_or text at 0 ≡ 92) × (get_or text (at + 1) 0 ≡ 117)
    × SpellSurrogate (get_or text (at + 2) 0) (get_or text (at + 3) 0) (get_or text (at + 4) 0) (get_or text (at + 5) 0)
