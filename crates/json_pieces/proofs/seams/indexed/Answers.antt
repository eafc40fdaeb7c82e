use Rattle.std.proofs.Common.{[], ◌∷◌, ◌++◌, ap, sym, subst, refl, ◌∙◌, append-nil, append_assoc}
use Rattle.json_pieces.specs.Names.{IsIndexOf}
use Rattle.json_pieces.proofs.Places.{of_none}
use Rattle.json_pieces.proofs.seams.indexed.Goals as goal

pub loop-seam-init : goal.loop-seam-init
loop-seam-init c = ([], refl, of_none c.new-index.result c.new-index.ensures)

pub loop-seam-preserved : goal.loop-seam-preserved
loop-seam-preserved c =
    let (done, is, h) = c.loop-seam.invariant in
    let s = c.in-Some.seam.now in
    (done ++ s ∷ [], append_assoc done (s ∷ []) _ ∙ ap (λ l. done ++ l) (sym c.in-Some.ensures) ∙ is, c.in_ok-learn.ensures done h)

pub returns : goal.returns
returns c =
    let (done, is, h) = c.loop-seam.invariant in
    subst (λ l. IsIndexOf l c.loop-seam.index) (sym (append-nil done) ∙ ap (λ l. done ++ l) (sym c.in_default.ensures) ∙ is) h
