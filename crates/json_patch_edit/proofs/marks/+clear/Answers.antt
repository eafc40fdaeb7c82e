use Rattle.json_patch_edit.proofs.Common.{◌≡◌, ◌≤◌, ◌<◌, arith, view, members_view, items_view, length, rules, the_lemmas}
use Rattle.json_patch_edit.proofs.Common.{ap, sym, ◌∙◌, Object}
use Rattle.json_patch_edit.proofs.MarkedContainers.{clears_object, retained_seen, entry_depth, unvisited_depth, clears_next}
use Rattle.json_patch_edit.proofs.MarkedContainers.{cleared_all}
use Rattle.serde_json.specs.Data.{depth, members_depth, items_depth}
use Rattle.json_patch_edit.proofs.marks.+clear.Goals as goal

pub clear-returns-in-Object : goal.clear-returns-in-Object
clear-returns-in-Object t c = clears_object _ _ _ c.clear_members.new.members (c.in-Object.is ∙ ap Object (sym c.in-Object.members-is)) (search (rules, the_lemmas)) c.clear_members.ensures

pub clear_members-retain-requires : goal.clear_members-retain-requires
clear_members-retain-requires t c = record { at = λ before after f k v is folds a b same shows. (let shallow : depth (view v) ≤ members_depth (members_view c.args.members.now.entries) = entry_depth before after c.args.members.now.entries k v is in let at : depth (view b.now) ≡ depth (view v) = ap (λ x. depth (view x)) shows in (omega (arith, c.decreases), tt)) }

pub clear_members-returns : goal.clear_members-returns
clear_members-returns t c = retained_seen _ (λ f k v b w g told. search rules) _ _ _ c.retain.ensures.filtered

pub clear_items-clear-requires : goal.clear_items-clear-requires
clear_items-clear-requires t c =
    let lt : c.loop-i.i < length c.loop-i.items.items = omega arith in
    let shallow : depth (view c.index_mut.result.now) ≤ items_depth (items_view c.args.items.now.items) =
    unvisited_depth c.loop-i.i c.first_mark-count.result c.args.items.now.items c.loop-i.items.items c.index_mut.result.now c.loop-i.invariant.1 lt c.index_mut.ensures.value in
    (omega (arith, c.decreases), tt)

pub clear_items-loop-i-preserved : goal.clear_items-loop-i-preserved
clear_items-loop-i-preserved t c =
    let lt : c.loop-i.i < length c.loop-i.items.items = omega arith in
    (c.loop-i.invariant.0, clears_next c.loop-i.i c.first_mark-count.result c.args.items.now.items c.loop-i.items.items c.index_mut.result.now c.clear.new.value c.loop-i.invariant.1 lt c.index_mut.ensures.value c.clear.ensures)

pub clear_items-returns : goal.clear_items-returns
clear_items-returns t c =
    let at : c.loop-i.i ≡ c.first_mark-count.result = omega arith in
    rw at at c.loop-i.invariant.1 ∙ cleared_all c.first_mark-count.result c.args.items.now.items c.first_mark-count.ensures.count
