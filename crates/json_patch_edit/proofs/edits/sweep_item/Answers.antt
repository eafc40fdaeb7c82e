use Rattle.json_patch_edit.proofs.Common.{refl, rules, token_of}
use Rattle.json_patch_edit.proofs.Exchanges.{refused_exchange, sweeps_item}
use Rattle.json_patch_edit.proofs.MarkedContainers.{no_item_shown}
use Rattle.json_patch_edit.specs.Exchange.{sweep_child}
use Rattle.json_patch_edit.proofs.edits.sweep_item.Goals as goal

pub returns-in_err-index-clause-makes : goal.returns-in_err-index-clause-makes
returns-in_err-index-clause-makes c = λ v. search (rules, refused_exchange, no_item_shown (token_of c.args.token) c.args.items.now c.live_count.result sweep_child c.requires c.live_count.ensures.count)

pub returns-clause-makes : goal.returns-clause-makes
returns-clause-makes c = λ v. (sweeps_item (token_of c.args.token) c.args.items.now c.live_count.result c.in_ok-index.index c.index_mut.result.now c.live_count.ensures.count c.live_count.ensures.within c.in_ok-index.ensures c.index_mut.ensures.value c.clear.new.value _ refl c.clear.ensures, tt)
