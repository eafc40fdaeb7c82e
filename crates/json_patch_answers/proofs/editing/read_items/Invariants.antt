use Rattle.std.proofs.Common.{take}
use Rattle.serde_json.specs.View.{items_view}
use Rattle.json_patch_answers.specs.CommandList.{commands_of}
use Rattle.json_patch_answers.specs.Editing.{ReadsItems}
use Rattle.json_patch_answers.proofs.editing.read_items.Given as goal

abbrev pub invariant-loop-item : goal.invariant-loop-item
invariant-loop-item l = ReadsItems (items_view (take l.item-index l.items.items)) (commands_of l.commands.items)
