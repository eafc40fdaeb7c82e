-- For private clauses: what the commands that were read stand for.
use Rattle.std.specs.Prelude.{◌≡◌, List, map}
use Rattle.serde_json.specs.Data.{Data}
use Rattle.serde_json.specs.View.{view}
use Rattle.serde_json.specs.declared.value.Value.{Value}
use Rattle.json_patch.specs.Operation.{operations_of}
use Rattle.json_patch_editor.specs.Commands as editor
use Rattle.json_patch_editor.specs.Commands.{Reply, RepliesInTurn, apply, undo, redo}
use Rattle.json_patch_editor.specs.Versions.{Versions}
use Rattle.json_patch_answers.specs.Editing.{RefusesCommand, RefusesCommands, written_reply}
use Rattle.json_patch_answers.specs.declared.editing.Command.{Command}
use Rattle.json_patch_answers.specs.declared.editing.Command.TheVariants.{Apply, Undo, Redo}
use Rattle.json_patch_answers.specs.declared.fault.ToolFault.{ToolFault}
use Rattle.json_patch_answers.specs.declared.fault.ToolFault.TheVariants.{Unreadable, Memory}

abbrev pub command_of : Command → editor.Command
command_of (Apply p) = apply (operations_of p)
command_of Undo = undo
command_of Redo = redo

abbrev pub commands_of : List Command → List editor.Command
commands_of cs = map command_of cs

-- memory was short, or v is no command, and the fault says why
abbrev pub IsNoCommand : Data → ToolFault → Type 0
IsNoCommand v (Unreadable e) = RefusesCommand v e.operation e.kind
IsNoCommand v Memory = Unit {0}
IsNoCommand v _ = ⊥

abbrev pub IsNoCommands : Data → ToolFault → Type 0
IsNoCommands v (Unreadable e) = RefusesCommands v e.operation e.kind
IsNoCommands v Memory = Unit {0}
IsNoCommands v _ = ⊥

-- the values are the replies to the commands
abbrev pub HasReplied : Versions → List editor.Command → List Value → Versions → Type 0
HasReplied vs cs values ws = (rs : List Reply) × RepliesInTurn vs cs rs ws × (map view values ≡ map written_reply rs)
