use Rattle.json_patch_edit.proofs.Common.{◌≡◌, view, tokens_left, pointee}
use Rattle.json_patch_edit.proofs.walk.find.Given as goal

-- what stands where the tokens lead stands where those that are left lead from here
abbrev pub invariant-loop-token : goal.invariant-loop-token
invariant-loop-token l =
    ((goal.iterator-loop-token).can_next l.token-iterator × (goal.iterator-loop-token).is_finite l.token-iterator)
    × (pointee (view l.place) (tokens_left l.token-iterator) ≡ pointee (view l.fn.document) (tokens_left l.fn.tokens))
