-- For private clauses: values that say the same, with other numerals.
use Rattle.std.specs.Prelude.{◌≡◌, List, map}
use Rattle.serde_json.specs.Data.{Num, Data}
use Rattle.json_patch_document.specs.Document.{IsDocument}
use Rattle.json_patch_operation.specs.Operation.{Operation, IsWholeOp, AreWhole}
use Rattle.json_diff_text.specs.Renumbered.{renumbered, renumbered_op}

-- w says what v says, if these two documents say the same: with each other numbers with which they are one, so are w and v
abbrev pub IsSpelling : Data → Data → Data → Data → Type 0
IsSpelling told written v w = (IsDocument v → IsDocument w) × ((f : Num → Num) → renumbered f told ≡ renumbered f written → renumbered f w ≡ renumbered f v)

abbrev pub IsSpellingOp : Data → Data → Operation → Operation → Type 0
IsSpellingOp told written op o = (IsWholeOp op → IsWholeOp o) × ((f : Num → Num) → renumbered f told ≡ renumbered f written → renumbered_op f o ≡ renumbered_op f op)

abbrev pub AreSpellings : Data → Data → List Operation → List Operation → Type 0
AreSpellings told written ops os = (AreWhole ops → AreWhole os) × ((f : Num → Num) → renumbered f told ≡ renumbered f written → map (renumbered_op f) os ≡ map (renumbered_op f) ops)
