use Rattle.json_patch_edit.proofs.Common.{◌<◌, zero, arith, token_of}
use Rattle.json_patch_edit.proofs.Exchanges.{undoes_insert}
use Rattle.json_patch_edit.proofs.edits.undo_insert.Goals as goal

pub returns-clause-makes : goal.returns-clause-makes
returns-clause-makes c =
    let some : zero < c.live_count-count.result = omega arith in
    undoes_insert (token_of c.args.token) c.args.items.now c.live_count-count.result c.in_ok-index.index c.remove_at.result _ c.live_count-count.ensures.count c.live_count-count.ensures.within some c.in_ok-index.ensures c.remove_at.ensures.value c.remove_at.ensures.items
