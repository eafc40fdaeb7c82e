use Rattle.json_text.proofs.cutting.without_one.Goals as goal

pub returns : goal.returns
returns c = λ v says. (_, c.in_ok-new.ensures, rw c.in-Some.is at (c.piece.ensures.piece v says))
