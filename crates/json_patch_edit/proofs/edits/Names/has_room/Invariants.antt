use Rattle.json_patch_edit.proofs.Common.{◌↔◌, tokens_left, tokens_of}
use Rattle.json_patch_edit.specs.Exchange.{AreFitting, room}
use Rattle.json_patch_edit.proofs.edits.Names.has_room.Given as goal

abbrev pub invariant-loop-token : goal.invariant-loop-token
invariant-loop-token l =
    (AreFitting (room l.self) (tokens_left l.token-iterator) ↔ AreFitting (room l.self) (tokens_of l.fn.path)) ×
    (goal.iterator-loop-token).can_next l.token-iterator ×
    (goal.iterator-loop-token).is_finite l.token-iterator
