use Rattle.json_patch_edit.proofs.Common.{refl, rules, view, token_of, set_child}
use Rattle.json_patch_edit.proofs.Exchanges.{refused_exchange, swaps_item}
use Rattle.json_patch_edit.proofs.MarkedContainers.{no_item_shown}
use Rattle.json_patch_edit.proofs.edits.swap_item.Goals as goal

pub returns-in_err-index-clause-makes : goal.returns-in_err-index-clause-makes
returns-in_err-index-clause-makes c = search (rules, refused_exchange, no_item_shown (token_of c.args.token) c.args.items.now c.live_count.result (λ s d. set_child s (view c.args.value.now) d) c.requires c.live_count.ensures.count)

pub returns-clause-makes : goal.returns-clause-makes
returns-clause-makes c = rw c.swap.ensures.y_after (swaps_item (token_of c.args.token) c.args.items.now c.live_count.result c.in_ok-index.index c.index_mut.result.now c.live_count.ensures.count c.live_count.ensures.within c.in_ok-index.ensures c.index_mut.ensures.value c.args.value.now c.swap.new.x _ refl c.swap.ensures.x_after)
