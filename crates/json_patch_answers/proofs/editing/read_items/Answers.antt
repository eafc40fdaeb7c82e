use Rattle.std.proofs.Common.{◌≡◌, [], ◌∷◌, ◌++◌, take, add-one, rules}
use Rattle.serde_json.specs.View.{items_view}
use Rattle.json_patch_answers.proofs.Commands.{commands_whole, item_fault, item_read}
use Rattle.json_patch_answers.proofs.editing.read_items.Goals as goal

pub returns-in-Err-clause-fault : goal.returns-in-Err-clause-fault
returns-in-Err-clause-fault c =
    let e = c.deref-item-items.ensures.value in
    item_fault c.args.items.now.items _ c.loop-item.item-index c.item-item.result c.in-Err.fault
    (rw e at c.loop-item-test.true) (rw e at c.item-item.is) c.loop-item.invariant c.in-Err.ensures.fault

pub loop-item-preserved : goal.loop-item-preserved
loop-item-preserved c =
    let e = c.deref-item-items.ensures.value in
    let pushed : c.push.new.self.items ≡ c.loop-item.commands.items ++ c.in-Ok.command ∷ [] = search rules in
    rw (pushed, add-one) (item_read c.args.items.now.items _ c.loop-item.item-index c.item-item.result c.in-Ok.command
    (rw e at c.loop-item-test.true) (rw e at c.item-item.is) c.loop-item.invariant c.in-Ok.ensures.read)

pub returns-clause-whole : goal.returns-clause-whole
returns-clause-whole c = commands_whole c.values.ensures.read_is_whole (items_view (take c.loop-item.item-index c.args.items.now.items)) _ c.loop-item.invariant
