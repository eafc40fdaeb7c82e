use Rattle.std.proofs.Common.{arith, subst, sym}
use Rattle.long_vec.specs.Items.{items_of}
use Rattle.json_pieces.specs.Names.{Agrees}
use Rattle.json_pieces.proofs.Places.{within_marks}
use Rattle.json_pieces.proofs.seams.Seams.take.Goals as goal

pub index_without-requires : goal.index_without-requires
index_without-requires c =
    let x = c.args.self.now in
    within_marks (items_of x.all) c.replace-index.result c.args.number (subst (Agrees (items_of x.all)) (sym c.replace-index.ensures.value) x.agrees) (omega (arith, c.requires))

pub invariant_of-self : goal.invariant_of-self
invariant_of-self c =
    let x = c.args.self.now in
    record {
      counted = omega (arith, c.remove-seam.ensures.len, x.counted);
      agrees = subst (λ l. Agrees l c.index_without.result) (sym c.remove-seam.ensures.items) (c.index_without.ensures (items_of x.all) (subst (Agrees (items_of x.all)) (sym c.replace-index.ensures.value) x.agrees));
    }
