use Rattle.std.proofs.Common.{sym}
use Rattle.json_pieces.specs.Held.{held}
use Rattle.json_pieces.specs.Whole.{IsFit}
use Rattle.json_pieces.proofs.Logs.{marked_can, marked_leads, marked_twice}
use Rattle.json_pieces.proofs.pieces.Pieces.mark.Goals as goal

pub returns-clause-pieces : goal.returns-clause-pieces
returns-clause-pieces c =
    let p = c.close_if_large.ensures.pieces in
    let s = c.close_if_large.new.self in
    record { before = p.before; root = p.root; behind = p.behind; fits = p.fits; back = marked_can s.log c.mark.new.self (IsFit s.before s.behind) (held s.root) c.in_ok-mark.ensures.marked (p.root, p.fits) p.back }

pub returns-clause-marked : goal.returns-clause-marked
returns-clause-marked c =
    let s = c.close_if_large.new.self in
    record { then = held s.root; leads = marked_leads s.log c.mark.new.self (held s.root) c.in_ok-mark.ensures.marked; text_is = sym c.close_if_large.ensures.kept }

pub returns-clause-further : goal.returns-clause-further
returns-clause-further c = λ t b.
    let s = c.close_if_large.new.self in
    let d = c.close_if_large.ensures.back.0 t b in
    record { then = d.then; leads = marked_twice s.log c.mark.new.self (held s.root) d.then c.in_ok-mark.ensures.marked d.leads; text_is = d.text_is }
