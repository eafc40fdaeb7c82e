use Rattle.std.proofs.Common.{◌∙◌}
use Rattle.std.proofs.lemmas.Result.{IfOk-weaker}
use Rattle.json_kept_text.proofs.Sound.{left_sound, shallow}
use Rattle.json_kept_text.proofs.kept.KeptText.value.Goals as goal

pub invariant_of-self : goal.invariant_of-self
invariant_of-self c =
    let k = c.self.invariant in let m = c.close_if_large.ensures in
    left_sound c.self.inside.limits c.self.inside.pieces c.close_if_large.new.self c.self.inside.last k.bounded m.pieces k.readable m.kept m.back.0 k.back

pub value-requires-clause-shallow : goal.value-requires-clause-shallow
value-requires-clause-shallow c = let k = c.self.invariant in rw c.close_if_large.ensures.kept (shallow c.self.inside.limits _ k.bounded k.readable)

pub invariant_of-self-2 : goal.invariant_of-self-2
invariant_of-self-2 c =
    let k = c.self.invariant in let m = c.value.ensures in let before = c.close_if_large.ensures in
    left_sound c.self.inside.limits c.self.inside.pieces c.value.new.self c.self.inside.last k.bounded m.pieces k.readable (m.kept ∙ before.kept) (λ t b. m.back.0 t (before.back.0 t b)) k.back

pub returns-clause-value : goal.returns-clause-value
returns-clause-value c = rw (← c.self.view_is, ← c.close_if_large.ensures.kept) (IfOk-weaker c.value.result _ _ (λ found h. (h.0, h.1.0, h.2)) c.value.ensures.value)
