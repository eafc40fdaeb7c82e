use Rattle.json_patch_edit.proofs.Common.{◌≡◌, ◌<◌, ◌-◌, suc, rules, arith, view, vec_len, token_of}
use Rattle.json_patch_edit.proofs.Exchanges.{refused_exchange}
use Rattle.json_patch_edit.proofs.MarkedContainers.{at_no_item, restores_item}
use Rattle.json_patch_edit.specs.Marked.{restore_child}
use Rattle.json_patch_edit.proofs.edits.undo_take.Goals as goal

pub returns-in_err-index-clause-makes : goal.returns-in_err-index-clause-makes
returns-in_err-index-clause-makes c = search (rules, refused_exchange, at_no_item (token_of c.args.token) c.args.items.now c.len.result (restore_child (view c.args.value.now)) c.len.ensures)

pub returns-in-Some-clause-makes : goal.returns-in-Some-clause-makes
returns-in-Some-clause-makes c =
    let at : c.in_ok-index.index < c.len.result = c.in_ok-index.ensures.0 in
    let less : suc (vec_len c.args.items.now - 1) ≡ vec_len c.args.items.now = omega arith in
    let wrote = rw c.if-is_err.ensures.negation at c.insert_at.ensures.items in
    (rw (← c.take.ensures.value) (restores_item (token_of c.args.token) c.args.items.now c.pop-mark.new.self.items c.insert_at.new.items.items c.len.result c.in_ok-index.index (vec_len c.args.items.now - 1) c.take.result c.len.ensures c.in_ok-index.ensures less c.pop-mark.ensures.rest wrote), tt)
