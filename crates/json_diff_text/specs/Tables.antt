-- For private clauses: the numerals of a table.
use Rattle.std.specs.Prelude.{ℕ, List, map, String}
use Rattle.std.specs.String.{string_bytes}
use Rattle.std.specs.declared.alloc.Global.{Global}
use Rattle.json_diff_text.specs.declared.numerals.Numerals.{Numerals}

abbrev pub numerals_in : List (String Global) → List (List ℕ)
numerals_in ss = map string_bytes ss

abbrev pub table : Numerals → List (List ℕ)
table n = numerals_in n.texts.items
