use Rattle.std.proofs.Common.{◌≡◌, ◌∙◌, Some, ap, not, subst, true}
use Rattle.std.specs.Prelude.{is_some, option_map}
use Rattle.json_pieces.specs.Whole.{text_of}
use Rattle.json_kept_text.proofs.Sound.{back_there}
use Rattle.json_kept_text.proofs.kept.KeptText.undo.Goals as goal

pub invariant_of-self-2 : goal.invariant_of-self-2
invariant_of-self-2 c =
    let k = c.self.invariant in
    let some = subst (λ o. is_some o ≡ true) c.take.ensures.value (c.is_none.ensures ∙ ap not c.if-is_none.false) in
    let there = back_there c.self.inside.limits c.self.inside.pieces c.take_back.new.self c.self.inside.last some c.take_back.ensures.back k.back in
    record { bounded = k.bounded; pieces = c.take_back.ensures.pieces; readable = there.0; back = rw c.take.ensures.after tt }

pub returns-clause-undone : goal.returns-clause-undone
returns-clause-undone c = λ t.
    let k = c.self.invariant in
    let some = subst (λ o. is_some o ≡ true) c.take.ensures.value (c.is_none.ensures ∙ ap not c.if-is_none.false) in
    let there = back_there c.self.inside.limits c.self.inside.pieces c.take_back.new.self c.self.inside.last some c.take_back.ensures.back k.back in
    subst (λ s. option_map (λ x. x.before) s.last ≡ Some (text_of c.take_back.new.self)) c.self.view_is there.1

pub returns-clause-readable : goal.returns-clause-readable
returns-clause-readable c =
    let k = c.self.invariant in
    let some = subst (λ o. is_some o ≡ true) c.take.ensures.value (c.is_none.ensures ∙ ap not c.if-is_none.false) in
    (back_there c.self.inside.limits c.self.inside.pieces c.take_back.new.self c.self.inside.last some c.take_back.ensures.back k.back).0
