-- A text that is kept, as its caller sees it.
use Rattle.std.specs.Prelude.{◌≤◌, ℕ, List, Option, None, IsUtf8}
use Rattle.json.specs.Json.{Json}
use Rattle.json_lexemes.specs.Skipped.{nesting}
use Rattle.json_lexemes.specs.Spelled.{Says}
use Rattle.json_patch_limits.specs.declared.limits.Limits.{Limits}

-- a change that was recorded: the text before it, and the text of the patch that leads back there
pub record Change : Type 0 where
  pub before : List ℕ
  pub inverse : List ℕ

-- the text, the limits of its changes, and the last change, where that was recorded and isn't taken back
pub record State : Type 0 where
  pub text : List ℕ
  pub limits : Limits
  pub last : Option Change

-- a text that is kept, with nothing recorded
abbrev pub opened : Limits → List ℕ → State
opened l text = record { text = text; limits = l; last = None }

-- the text is UTF-8 and JSON (RFC 8259), with no unpaired surrogate, and nests no deeper than the limits say
abbrev pub IsReadable : Limits → List ℕ → Type 0
IsReadable l text = IsUtf8 text × ((j : Json) × Says text j) × (nesting text ≤ l.depth)
