-- What the bytes of an input say: two values, or a fault.
use Rattle.std.specs.Prelude.{◌≡◌, ◌≤◌, ◌<◌, ℕ, List, [], ◌∷◌, ◌++◌, Option, Some, None, IsUtf8, length}
use Rattle.serde_json.specs.Data.{Data, array, item, no_items}
use Rattle.serde_json.specs.Read.{read}
use Rattle.serde_json.specs.Written.{compact_text}
use Rattle.json_patch_answers.specs.declared.input.TheConstants.{MAX_INPUT}
use Rattle.json_patch_answers.specs.declared.fault.ToolFault.{ToolFault}
use Rattle.json_patch_answers.specs.declared.fault.ToolFault.TheVariants.{TooLarge, Syntax, NotAPair}

-- the bytes are one JSON text, which says d
abbrev pub Says : List ℕ → Data → Type 0
Says input d = (length input ≤ MAX_INPUT) × IsUtf8 input × (read input ≡ Some d)

-- the values of an array of two
abbrev pub pair_of : Data → Option (Data × Data)
pair_of (array (item d (item e no_items))) = Some (d, e)
pair_of _ = None

-- the bytes are one JSON text, an array of d and e
abbrev pub SaysPair : List ℕ → Data → Data → Type 0
SaysPair input d e = (whole : Data) × Says input whole × (pair_of whole ≡ Some (d, e))

-- why the bytes say no two values: they are too many, or no JSON text, or one of another value; and for no other fault
abbrev pub NoPair : List ℕ → ToolFault → Type 0
NoPair input TooLarge = MAX_INPUT < length input
NoPair input Syntax = (length input ≤ MAX_INPUT) × (IsUtf8 input → read input ≡ None)
NoPair input NotAPair = (whole : Data) × Says input whole × (pair_of whole ≡ None)
NoPair input _ = ⊥

-- a value on a line of its own
abbrev pub line_of : Data → List ℕ
line_of d = compact_text d ++ 10 ∷ []
