use Rattle.json_patch_edit.proofs.Common.{rules, view, token_of}
use Rattle.json_patch_edit.proofs.Exchanges.{refused_exchange, takes_item}
use Rattle.json_patch_edit.proofs.MarkedContainers.{no_item_shown}
use Rattle.json_patch_edit.specs.Marked.{mark_child}
use Rattle.json_patch_edit.proofs.edits.take_item.Goals as goal

pub returns-in_err-index-clause-makes : goal.returns-in_err-index-clause-makes
returns-in_err-index-clause-makes c = search (rules, refused_exchange, no_item_shown (token_of c.args.token) c.args.items.now c.live_count.result (mark_child (view c.args.value.now)) c.requires c.live_count.ensures.count)

pub returns-clause-makes : goal.returns-clause-makes
returns-clause-makes c = rw c.replace.ensures.after (takes_item (token_of c.args.token) c.args.items.now c.live_count.result c.in_ok-index.index c.remove_at-item.result c.live_count.ensures.count c.live_count.ensures.within c.in_ok-index.ensures c.remove_at-item.ensures.value c.args.value.now _ _ _ c.remove_at-item.ensures.items c.push_reserved.ensures.items c.replace.ensures.value)
