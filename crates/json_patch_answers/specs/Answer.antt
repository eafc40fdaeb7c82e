-- The answer to an input.
use Rattle.std.specs.Prelude.{◌≡◌, ◌≤◌, ◌⊎◌, ℕ, List, length, Result, Ok, Err}
use Rattle.serde_json.specs.Data.{Data, array, item, no_items, depth}
use Rattle.serde_json.specs.Read.{max_depth}
use Rattle.serde_json.specs.Written.{compact_text}
use Rattle.json_patch.specs.Document.{IsDocument}
use Rattle.json_patch.specs.Operation.{Operation}
use Rattle.json_patch.specs.PatchValue.{ReadsPatch, RefusesPatch, written_patch}
use Rattle.json_patch.specs.Run.{Accepts}
use Rattle.json_patch.specs.Refusal.{NamesFirst}
use Rattle.json_patch.specs.Inverse.{IsInverse}
use Rattle.json_patch.specs.Merged.{IsMerged}
use Rattle.json_patch_editor.specs.Commands.{Command, Reply, RepliesInTurn}
use Rattle.json_patch_editor.specs.Versions.{Versions, initial}
use Rattle.json_patch_answers.specs.Editing.{ReadsCommands, RefusesCommands, written_edit}
use Rattle.json_patch_answers.specs.Input.{SaysPair, NoPair, line_of}
use Rattle.json_patch_answers.specs.declared.input.TheConstants.{MAX_INPUT}
use Rattle.json_patch_answers.specs.declared.mode.Mode.{Mode}
use Rattle.json_patch_answers.specs.declared.mode.Mode.TheVariants.{Patch, Record, Merge, Edit}
use Rattle.json_patch_answers.specs.declared.fault.ToolFault.{ToolFault}
use Rattle.json_patch_answers.specs.declared.fault.ToolFault.TheVariants.{NotWhole, Unreadable, Refused}

-- p reads as a patch that is accepted on the document d, and leaves e
abbrev pub IsPatched : Data → Data → Data → Type 0
IsPatched d p e = IsDocument d × ((ops : List Operation) × ReadsPatch p ops × Accepts d ops e)

-- the same, and `whole` is the array of what is left and the patch that undoes it
abbrev pub IsRecorded : Data → Data → Data → Type 0
IsRecorded d p whole = IsDocument d × ((ops undo : List Operation) × (e : Data) × ReadsPatch p ops × Accepts d ops e
    × IsInverse d ops undo × (whole ≡ array (item e (item (written_patch undo) no_items))))

-- why p isn't applied to d: d is no document, or else p is no patch, or else the patch is refused; and for no other fault
abbrev pub IsNotPatched : Data → Data → ToolFault → Type 0
IsNotPatched d p NotWhole = IsDocument d → ⊥
IsNotPatched d p (Unreadable e) = IsDocument d × RefusesPatch p e.operation e.kind
IsNotPatched d p (Refused e) = IsDocument d × ((ops : List Operation) × ReadsPatch p ops × NamesFirst d ops e)
IsNotPatched d p _ = ⊥

-- d and p are documents, and the document e is d with the merge patch p merged into it
abbrev pub IsMergedWhole : Data → Data → Data → Type 0
IsMergedWhole d p e = IsDocument d × IsDocument p × IsDocument e × IsMerged d p e

-- why p isn't merged into d: one of the two is no document; and for no other fault
abbrev pub IsNotMerged : Data → Data → ToolFault → Type 0
IsNotMerged d p NotWhole = (IsDocument d → ⊥) ⊎ (IsDocument p → ⊥)
IsNotMerged d p _ = ⊥

-- p is an array of commands, and `whole` is the array of the document that an editor of d leaves after them and its
-- replies
abbrev pub IsEdited : Data → Data → Data → Type 0
IsEdited d p whole = IsDocument d × ((cs : List Command) × (rs : List Reply) × (ws : Versions) × ReadsCommands p cs
    × RepliesInTurn (initial 65536 d) cs rs ws × (whole ≡ written_edit ws rs))

-- why d isn't edited: d is no document, or else p is no array of commands; and for no other fault
abbrev pub IsNotEdited : Data → Data → ToolFault → Type 0
IsNotEdited d p NotWhole = IsDocument d → ⊥
IsNotEdited d p (Unreadable e) = IsDocument d × RefusesCommands p e.operation e.kind
IsNotEdited d p _ = ⊥

-- the value that a mode gives for two values
abbrev pub GivesValue : Mode → Data → Data → Data → Type 0
GivesValue Patch d p e = IsPatched d p e
GivesValue Record d p e = IsRecorded d p e
GivesValue Merge d p e = IsMergedWhole d p e
GivesValue Edit d p e = IsEdited d p e

-- why it gives none
abbrev pub GivesFault : Mode → Data → Data → ToolFault → Type 0
GivesFault Patch d p fault = IsNotPatched d p fault
GivesFault Record d p fault = IsNotPatched d p fault
GivesFault Merge d p fault = IsNotMerged d p fault
GivesFault Edit d p fault = IsNotEdited d p fault

-- what a mode answers to the bytes of an input, want of memory aside: the line of the value that it gives for the two
-- values that they say, or why they say no two, or why it gives none for these
abbrev pub Answer : Mode → List ℕ → Result (List ℕ) ToolFault → Type 0
Answer mode input (Ok line) = (d p e : Data) × SaysPair input d p × GivesValue mode d p e × (line ≡ line_of e)
Answer mode input (Err fault) = NoPair input fault ⊎ ((d p : Data) × SaysPair input d p × GivesFault mode d p fault)

-- the line is that of a recorded value, whose text, where it keeps the limits on size and depth, is an
-- input for which mode Patch answers the first document
abbrev pub LeadsBack : List ℕ → List ℕ → Type 0
LeadsBack input line = (d p whole : Data) × SaysPair input d p × IsRecorded d p whole × (line ≡ line_of whole)
    × (length (compact_text whole) ≤ MAX_INPUT → depth whole ≤ max_depth → Answer Patch (compact_text whole) (Ok (line_of d)))
