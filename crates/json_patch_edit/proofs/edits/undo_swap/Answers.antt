use Rattle.json_patch_edit.proofs.Common.{refl, rules, view, token_of, set_child}
use Rattle.json_patch_edit.proofs.Exchanges.{refused_exchange, swaps_back_item}
use Rattle.json_patch_edit.proofs.MarkedContainers.{at_no_item}
use Rattle.json_patch_edit.proofs.edits.undo_swap.Goals as goal

pub returns-in_err-index-clause-makes : goal.returns-in_err-index-clause-makes
returns-in_err-index-clause-makes c = search (rules, refused_exchange, at_no_item (token_of c.args.token) c.args.items.now c.len.result (λ s d. set_child s (view c.args.value.now) d) c.len.ensures)

pub returns-clause-makes : goal.returns-clause-makes
returns-clause-makes c = rw c.swap.ensures.y_after (swaps_back_item (token_of c.args.token) c.args.items.now c.len.result c.in_ok-index.index c.len.ensures c.in_ok-index.ensures c.args.value.now c.swap.new.x c.index_mut.result.now _ c.index_mut.ensures.value refl c.swap.ensures.x_after)
