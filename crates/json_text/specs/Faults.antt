-- Why a text isn't read.
use Rattle.std.specs.Prelude.{◌<◌, ℕ, List, ⊤}
use Rattle.json.specs.Json.{Json, max_depth}
use Rattle.json_lexemes.specs.Spelled.{Says}
use Rattle.json_lexemes.specs.Skipped.{nesting}
use Rattle.json_text.specs.declared.fault.TextFault.{TextFault}
use Rattle.json_text.specs.declared.fault.TextFault.TheVariants.{NotJson, TooDeep, Memory}

abbrev pub IsTextFault : List ℕ → TextFault → Type 0
IsTextFault text NotJson = (j : Json) → ¬ Says text j
IsTextFault text TooDeep = max_depth < nesting text
IsTextFault text (Memory m) = ⊤
