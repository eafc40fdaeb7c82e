use Rattle.json_pieces.proofs.pieces.Pieces.forget.Goals as goal

pub returns-clause-pieces : goal.returns-clause-pieces
returns-clause-pieces c =
    let p = c.requires in
    record { before = p.before; root = p.root; behind = p.behind; fits = p.fits; back = tt }
