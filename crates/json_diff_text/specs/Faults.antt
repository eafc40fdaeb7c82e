-- For private clauses: why a text isn't read.
use Rattle.std.specs.Prelude.{◌<◌, ℕ, List, ⊤}
use Rattle.json.specs.Json.{Json}
use Rattle.json_lexemes.specs.Skipped.{nesting}
use Rattle.json_lexemes.specs.Spelled.{Says}
use Rattle.json_text.specs.declared.fault.TextFault.{TextFault}
use Rattle.json_text.specs.declared.fault.TextFault.TheVariants.{NotJson, TooDeep, Memory}
use Rattle.json_diff_text.specs.declared.fault.DiffTextFault.{DiffTextFault}
use Rattle.json_diff_text.specs.declared.fault.DiffTextFault.TheVariants as diff
use Rattle.json_diff_text.specs.declared.fault.BothTextFault.{BothTextFault}
use Rattle.json_diff_text.specs.declared.fault.BothTextFault.TheVariants as both

-- where it may nest so many levels
abbrev pub IsUnread : ℕ → List ℕ → TextFault → Type 0
IsUnread levels text NotJson = (j : Json) → ¬ Says text j
IsUnread levels text TooDeep = levels < nesting text
IsUnread levels text (Memory m) = ⊤

-- which fault that of the first text becomes, or of the second
abbrev pub as_from : TextFault → DiffTextFault
as_from NotJson = diff.From NotJson
as_from TooDeep = diff.From TooDeep
as_from (Memory m) = diff.Memory m

abbrev pub as_to : TextFault → DiffTextFault
as_to NotJson = diff.To NotJson
as_to TooDeep = diff.To TooDeep
as_to (Memory m) = diff.Memory m

abbrev pub as_first : TextFault → BothTextFault
as_first NotJson = both.First NotJson
as_first TooDeep = both.First TooDeep
as_first (Memory m) = both.Memory m

abbrev pub as_then : TextFault → BothTextFault
as_then NotJson = both.Then NotJson
as_then TooDeep = both.Then TooDeep
as_then (Memory m) = both.Memory m
