use Rattle.std.proofs.Common.{◌∙◌, ap}
use Rattle.std.specs.Prelude.{option_map}
use Rattle.std.proofs.lemmas.Result.{IfOk-weaker}
use Rattle.json_text.specs.Listing.{shape_of}
use Rattle.json_text.specs.Pointed.{tree_at}
use Rattle.json_pieces.specs.Held.{held}
use Rattle.json_pieces.specs.Nodes.{text_bytes, tree_text, view}
use Rattle.json_pieces.specs.Whole.{IsFit}
use Rattle.json_pieces.proofs.Logs.{finer_can, finer_leads, finer_twice, fit_stays, text_stays}
use Rattle.json_pieces.proofs.Looks.{looks_around}
use Rattle.json_pieces.proofs.pieces.Pieces.shape.Goals as goal

pub returns-clause-pieces : goal.returns-clause-pieces
returns-clause-pieces c =
    let p = c.requires.pieces in
    let s = c.args.self.now in
    let fit = fit_stays s.before s.behind (held s.root) (held c.shape_at-shape.new.node) c.shape_at-shape.ensures.finer (p.root, p.fits) in
    record { before = p.before; root = c.shape_at-shape.ensures.whole; behind = p.behind; fits = fit.1; back = finer_can s.log (IsFit s.before s.behind) (held s.root) (held c.shape_at-shape.new.node) (fit_stays s.before s.behind) c.shape_at-shape.ensures.finer p.back }

pub returns-clause-back : goal.returns-clause-back
returns-clause-back c =
    let s = c.args.self.now in (
      λ t b.
          let q = finer_leads s.log (held s.root) (held c.shape_at-shape.new.node) b.then c.shape_at-shape.ensures.finer b.leads in
          record { then = q.0; leads = q.1; text_is = b.text_is ∙ text_stays (text_bytes s.before) (text_bytes s.behind) b.then q.0 q.2 },
      λ t b.
          let q = finer_twice s.log (held s.root) (held c.shape_at-shape.new.node) b.then c.shape_at-shape.ensures.finer b.leads in
          record { then = q.0; leads = q.1; text_is = b.text_is ∙ text_stays (text_bytes s.before) (text_bytes s.behind) b.then q.0 q.2 },
    )

pub returns-clause-shape : goal.returns-clause-shape
returns-clause-shape c =
    let p = c.requires.pieces in
    IfOk-weaker c.shape_at-shape.result _ _
    (λ found looked j says.
    looks_around (text_bytes c.args.self.now.before) (text_bytes c.args.self.now.behind) (tree_text (view c.args.self.now.root)) _ found p.before p.behind (p.root.1.0, p.root.1.1.0) looked j says ∙ ap (λ P. option_map shape_of (tree_at P j)) c.tokens.ensures.value)
    c.shape_at-shape.ensures.looks
