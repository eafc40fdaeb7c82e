-- For private clauses: what a command asks an editor.
use Rattle.json_patch.specs.Operation.{AreWhole, operations_of}
use Rattle.json_patch_memory.specs.declared.editing.Command.{Command}
use Rattle.json_patch_memory.specs.declared.editing.Command.TheVariants.{Apply, Undo, Redo}

-- the values of a command's operations are documents
abbrev pub IsWholeCommand : Command → Type 0
IsWholeCommand (Apply p) = AreWhole (operations_of p)
IsWholeCommand Undo = Unit {0}
IsWholeCommand Redo = Unit {0}
