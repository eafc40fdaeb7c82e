use Rattle.json_patch_edit.proofs.Common.{rules, token_of, drop_child}
use Rattle.json_patch_edit.proofs.Exchanges.{refused_exchange, removes_item}
use Rattle.json_patch_edit.proofs.MarkedContainers.{no_item_shown}
use Rattle.json_patch_edit.proofs.edits.remove_item.Goals as goal

pub returns-in_err-index-clause-makes : goal.returns-in_err-index-clause-makes
returns-in_err-index-clause-makes c = search (rules, refused_exchange, no_item_shown (token_of c.args.token) c.args.items.now c.live_count.result drop_child c.requires c.live_count.ensures.count)

pub returns-clause-makes : goal.returns-clause-makes
returns-clause-makes c = removes_item (token_of c.args.token) c.args.items.now c.live_count.result c.in_ok-index.index c.remove_at.result c.live_count.ensures.count c.live_count.ensures.within c.in_ok-index.ensures c.remove_at.ensures.value _ c.remove_at.ensures.items
