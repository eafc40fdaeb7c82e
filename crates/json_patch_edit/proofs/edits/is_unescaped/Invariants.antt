use Rattle.json_patch_edit.proofs.Common.{◌↔◌, tokens_left, tokens_of, AreUnescaped}
use Rattle.json_patch_edit.proofs.edits.is_unescaped.Given as goal

abbrev pub invariant-loop-token : goal.invariant-loop-token
invariant-loop-token l =
    (AreUnescaped (tokens_left l.token-iterator) ↔ AreUnescaped (tokens_of l.fn.path)) ×
    (goal.iterator-loop-token).can_next l.token-iterator ×
    (goal.iterator-loop-token).is_finite l.token-iterator
