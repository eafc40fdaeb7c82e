-- Which fault of the tool one of the calls below it becomes.
use Rattle.json_patch.specs.PatchFault.{PatchFault}
use Rattle.json_patch.specs.PatchFault.TheVariants.{Refused as run_refused, Memory as run_memory}
use Rattle.json_patch.specs.ReadFault.{ReadFault}
use Rattle.json_patch.specs.ReadFault.TheVariants.{Refused as read_refused, Memory as read_memory}
use Rattle.json_patch_answers.specs.declared.fault.ToolFault.{ToolFault}
use Rattle.json_patch_answers.specs.declared.fault.ToolFault.TheVariants.{Unreadable, Refused, Memory}

abbrev pub of_reading : ReadFault → ToolFault
of_reading (read_refused e) = Unreadable e
of_reading (read_memory e) = Memory

abbrev pub of_run : PatchFault → ToolFault
of_run (run_refused e) = Refused e
of_run (run_memory e) = Memory
