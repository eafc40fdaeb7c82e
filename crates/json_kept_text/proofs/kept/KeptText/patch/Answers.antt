use Rattle.json_kept_text.proofs.Sound.{left_sound, readable, shallow}
use Rattle.json_kept_text.proofs.kept.KeptText.patch.Goals as goal

pub patch_pieces-requires-clause-shallow : goal.patch_pieces-requires-clause-shallow
patch_pieces-requires-clause-shallow c = let k = c.self.invariant in shallow c.self.inside.limits _ k.bounded k.readable

pub invariant_of-self : goal.invariant_of-self
invariant_of-self c =
    let k = c.self.invariant in
    left_sound c.self.inside.limits c.self.inside.pieces c.patch_pieces.new.pieces c.self.inside.last k.bounded c.patch_pieces.ensures.pieces k.readable c.in_err-patch_pieces.ensures.unchanged c.in_err-patch_pieces.ensures.still k.back

pub invariant_of-self-2 : goal.invariant_of-self-2
invariant_of-self-2 c =
    let k = c.self.invariant in let m = c.in_ok-patch_pieces.ensures in
    record { bounded = k.bounded; pieces = c.forget.ensures.pieces; readable = rw c.forget.ensures.kept (readable c.self.inside.limits c.patch_pieces.new.pieces m.accepted.2.1 m.accepted.2.3 m.bounded.0); back = tt }

pub returns-clause-readable : goal.returns-clause-readable
returns-clause-readable c = let m = c.in_ok-patch_pieces.ensures in rw c.forget.ensures.kept (readable c.self.inside.limits c.patch_pieces.new.pieces m.accepted.2.1 m.accepted.2.3 m.bounded.0)

pub returns-clause-accepted : goal.returns-clause-accepted
returns-clause-accepted c = rw (c.forget.ensures.kept, ← c.self.view_is) c.in_ok-patch_pieces.ensures.accepted

pub returns-clause-kept : goal.returns-clause-kept
returns-clause-kept c = rw (c.forget.ensures.kept, ← c.self.view_is) c.in_ok-patch_pieces.ensures.kept

pub returns-clause-within : goal.returns-clause-within
returns-clause-within c = rw (c.forget.ensures.kept, ← c.self.view_is) c.in_ok-patch_pieces.ensures.within

pub returns-clause-bounded : goal.returns-clause-bounded
returns-clause-bounded c = rw (c.forget.ensures.kept, ← c.self.view_is) c.in_ok-patch_pieces.ensures.bounded
