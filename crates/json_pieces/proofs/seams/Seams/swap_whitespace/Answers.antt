use Rattle.std.proofs.Common.{◌∙◌, ap, length, refl, slice_set, subst, sym}
use Rattle.std.proofs.lemmas.List.{length-set, set-set}
use Rattle.json_pieces.specs.Exchanges.{with_whitespace}
use Rattle.json_pieces.specs.Names.{Agrees}
use Rattle.long_vec.specs.Items.{items_of}
use Rattle.json_pieces.proofs.Places.{still_agrees}
use Rattle.json_pieces.proofs.seams.Seams.swap_whitespace.Goals as goal

pub returns-clause-whitespace : goal.returns-clause-whitespace
returns-clause-whitespace c =
    let ss = items_of c.args.self.now.all in
    let s = with_whitespace c.args.whitespace.now c.exchange-seam.result in
    record {
      seam = c.exchange-seam.result;
      is = c.exchange-seam.ensures.value;
      taken_is = c.swap.ensures.y_after;
      left = c.exchange.ensures.items ∙ ap (λ x. slice_set (items_of c.exchange-seam.new.self) c.args.number (with_whitespace x c.exchange-seam.result)) c.swap.ensures.x_after ∙ ap (λ l. slice_set l c.args.number s) c.exchange-seam.ensures.items ∙ set-set ss c.args.number c.empty.result s;
    }

pub invariant_of-self : goal.invariant_of-self
invariant_of-self c =
    let x = c.args.self.now in
    let ss = items_of x.all in
    let s = with_whitespace c.args.whitespace.now c.exchange-seam.result in
    let left = c.exchange.ensures.items ∙ ap (λ t. slice_set (items_of c.exchange-seam.new.self) c.args.number (with_whitespace t c.exchange-seam.result)) c.swap.ensures.x_after ∙ ap (λ l. slice_set l c.args.number s) c.exchange-seam.ensures.items ∙ set-set ss c.args.number c.empty.result s in
    record {
      counted = ap length left ∙ length-set ss c.args.number s ∙ x.counted;
      agrees = subst (λ l. Agrees l x.index) (sym left) (still_agrees ss x.index c.args.number c.exchange-seam.result s c.exchange-seam.ensures.value refl x.agrees);
    }
