use Rattle.std.proofs.Common.{◌∙◌, ◌∷◌, [], ap, arith, length, length-append, subst, sym}
use Rattle.long_vec.specs.Items.{items_of}
use Rattle.json_pieces.specs.Names.{Agrees}
use Rattle.json_pieces.proofs.seams.Seams.push.Goals as goal

pub invariant_of-self : goal.invariant_of-self
invariant_of-self c = record { counted = ap length c.in-Err.ensures.items ∙ c.args.self.now.counted; agrees = subst (Agrees (items_of c.push.new.self)) (sym c.let_go.ensures) tt }

pub invariant_of-self-2 : goal.invariant_of-self-2
invariant_of-self-2 c =
    let x = c.args.self.now in
    record { counted = omega (arith, ap length c.in-Ok.ensures.items, length-append (items_of x.all) (c.args.seam ∷ []), x.counted, c.in-Some.ensures); agrees = subst (Agrees (items_of c.push.new.self)) (sym c.let_go.ensures) tt }
