use Rattle.json_patch_text_bytes.proofs.MergePatches.{are_never_joined, is_joined}
use Rattle.json_patch_text_bytes.proofs.calls.joined.Goals as goal

pub returns-in-Ok-clause-text : goal.returns-in-Ok-clause-text
returns-in-Ok-clause-text c =
    let two = c.in_ok-one.ensures in let made = c.in-Ok.ensures in
    is_joined c.args.limits c.args.first.now c.args.then.now c.in_ok-one.one.now c.in_ok-one.next.now c.in-Ok.patch two.document.0 two.second.0
    two.document.1 two.document.2 two.second.1 two.second.2 made.both made.in_turn made.depth

pub returns-in-Ok-clause-impossible : goal.returns-in-Ok-clause-impossible
returns-in-Ok-clause-impossible c = λ none.
    let two = c.in_ok-one.ensures in let made = c.in-Ok.ensures in
    are_never_joined c.args.limits c.args.first.now c.args.then.now c.in_ok-one.one.now c.in_ok-one.next.now two.document.0 two.second.0
    two.document.1 two.document.2 two.second.1 two.second.2 (made.impossible none) (made.resets.0 none)
