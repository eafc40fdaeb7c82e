-- With which status the program ends.
use Rattle.std.specs.Prelude.{ℕ}
use Rattle.json_patch_answers.specs.declared.fault.ToolFault.{ToolFault}
use Rattle.json_patch_answers.specs.declared.fault.ToolFault.TheVariants.{TooLarge, Syntax, NotAPair, NotWhole, Unreadable}
use Rattle.json_patch_answers.specs.declared.fault.ToolFault.TheVariants.{Refused, Memory, ReadFailed, WriteFailed}

abbrev pub status_of : ToolFault → ℕ
status_of (Refused e) = 1
status_of TooLarge = 2
status_of Syntax = 2
status_of NotAPair = 2
status_of NotWhole = 2
status_of (Unreadable e) = 2
status_of Memory = 3
status_of ReadFailed = 4
status_of WriteFailed = 4
