-- For private clauses: what holds of the line of mode Record.
use Rattle.std.specs.Prelude.{◌≡◌, ◌≤◌, ℕ, List, length, Some}
use Rattle.serde_json.specs.Data.{Data, depth}
use Rattle.serde_json.specs.Read.{max_depth}
use Rattle.serde_json.specs.Written.{compact_text}
use Rattle.json_patch_answers.specs.Answer.{IsPatched, IsRecorded}
use Rattle.json_patch_answers.specs.Input.{Says, pair_of, line_of}
use Rattle.json_patch_answers.specs.declared.input.TheConstants.{MAX_INPUT}

-- the text of the value, where it keeps the limits, says the value
abbrev pub ReadsBack : Data → Type 0
ReadsBack d = length (compact_text d) ≤ MAX_INPUT → depth d ≤ max_depth → Says (compact_text d) d

-- `whole` is an array of a document and a patch of it that leaves d
abbrev pub LeadsTo : Data → Data → Type 0
LeadsTo d whole = (e v : Data) × (pair_of whole ≡ Some (e, v)) × IsPatched e v d

-- the line is that of a recorded value, which reads back and leads to d
abbrev pub IsRecordLine : Data → Data → List ℕ → Type 0
IsRecordLine d p line = (whole : Data) × IsRecorded d p whole × (line ≡ line_of whole) × ReadsBack whole × LeadsTo d whole
