use Rattle.std.proofs.Common.{◌∙◌, ap, subst, sym}
use Rattle.json_lexemes.specs.Spelled.{Says}
use Rattle.json_pieces.specs.Nodes.{IsSound, row_view, tree_text, view}
use Rattle.json_pieces.proofs.Levels.{view_open}
use Rattle.json_pieces.proofs.Walks.{open_sound}
use Rattle.json_pieces.proofs.shape.shape.Goals as goal

pub row_shape-requires : goal.row_shape-requires
row_shape-requires c = subst (λ r. IsSound (row_view r)) (sym c.deref.ensures) (open_sound c.args.node.now c.in-Open.row c.in-Open.is c.requires)

pub returns-in-Open : goal.returns-in-Open
returns-in-Open c = λ j says.
    let seen = ap tree_text (ap view c.in-Open.is ∙ view_open c.in-Open.row) ∙ ap (λ r. tree_text (row_view r)) (sym c.deref.ensures) in
    c.row_shape.ensures j (subst (λ x. Says x j) seen says)
