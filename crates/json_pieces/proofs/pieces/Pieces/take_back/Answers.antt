use Rattle.std.proofs.Common.{◌++◌, ◌∙◌, ap, sym}
use Rattle.json_pieces.specs.Held.{held}
use Rattle.json_pieces.specs.Nodes.{text_bytes, tree_of, tree_text}
use Rattle.json_pieces.specs.Whole.{IsFit}
use Rattle.json_pieces.proofs.Logs.{can_any, taken_holds, taken_leads, taken_to}
use Rattle.json_pieces.proofs.pieces.Pieces.take_back.Goals as goal

pub take_back-requires : goal.take_back-requires
take_back-requires c =
    let s = c.args.self.now in
    can_any s.log (IsFit s.before s.behind) (held s.root) c.requires.pieces.back

pub returns-clause-pieces : goal.returns-clause-pieces
returns-clause-pieces c =
    let p = c.requires.pieces in
    let s = c.args.self.now in
    let fit = taken_holds s.log c.take_back.new.self (IsFit s.before s.behind) (held s.root) (held c.take_back.new.node) c.take_back.ensures (p.root, p.fits) p.back in
    record { before = p.before; root = fit.0.0; behind = p.behind; fits = fit.0.1; back = fit.1 }

pub returns-clause-back : goal.returns-clause-back
returns-clause-back c = λ t b.
    let s = c.args.self.now in
    ap (λ h. text_bytes s.before ++ (tree_text (tree_of h) ++ text_bytes s.behind)) (taken_to s.log c.take_back.new.self (held s.root) (held c.take_back.new.node) b.then c.take_back.ensures b.leads) ∙ sym b.text_is

pub returns-clause-further : goal.returns-clause-further
returns-clause-further c = λ t b.
    let s = c.args.self.now in
    record { then = b.then; leads = taken_leads s.log c.take_back.new.self (held s.root) (held c.take_back.new.node) b.then c.take_back.ensures b.leads; text_is = b.text_is }
