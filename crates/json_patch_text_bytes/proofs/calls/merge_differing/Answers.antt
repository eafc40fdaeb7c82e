use Rattle.json_patch_text_bytes.proofs.MergePatches.{has_no_merge_difference, is_merge_difference}
use Rattle.json_patch_text_bytes.proofs.calls.merge_differing.Goals as goal

pub returns-in-Ok-clause-text : goal.returns-in-Ok-clause-text
returns-in-Ok-clause-text c =
    let two = c.in_ok-first.ensures in let made = c.in-Ok.ensures in
    is_merge_difference c.args.limits c.args.from.now c.args.to.now c.in_ok-first.first.now c.in_ok-first.second.now c.in-Ok.patch two.document.0 two.second.0
    two.document.1 two.document.2 two.second.1 two.second.2 made.leads made.gives made.nothing made.depth

pub returns-in-Ok-clause-impossible : goal.returns-in-Ok-clause-impossible
returns-in-Ok-clause-impossible c = λ none.
    let two = c.in_ok-first.ensures in let made = c.in-Ok.ensures in
    has_no_merge_difference c.args.limits c.args.from.now c.args.to.now c.in_ok-first.first.now c.in_ok-first.second.now two.document.0 two.second.0
    two.document.1 two.document.2 two.second.1 two.second.2 (made.impossible none) (made.wants_null.0 none)
