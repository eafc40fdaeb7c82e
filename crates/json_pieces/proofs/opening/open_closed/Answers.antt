use Rattle.std.proofs.Common.{◌∙◌, ap, refl, subst, sym}
use Rattle.json_pieces.specs.Held.{held}
use Rattle.json_pieces.specs.Nodes.{IsSound, row_view, tree_text}
use Rattle.json_pieces.proofs.Opened.{closed_opened, opened_itself}
use Rattle.json_pieces.proofs.opening.open_closed.Goals as goal

pub returns-in_err-row-clause-finer : goal.returns-in_err-row-clause-finer
returns-in_err-row-clause-finer c = opened_itself (held c.args.node.now)

pub returns-in_err-new-clause-finer : goal.returns-in_err-new-clause-finer
returns-in_err-new-clause-finer c = opened_itself (held c.args.node.now)

pub returns-in_default-clause-finer : goal.returns-in_default-clause-finer
returns-in_default-clause-finer c = opened_itself (held c.args.node.now)

pub returns-in_ok-new-clause-finer : goal.returns-in_ok-new-clause-finer
returns-in_ok-new-clause-finer c =
    let row = rw c.in-Some.is at c.in_ok-row.ensures in
    closed_opened c.args.node.now _ c.requires.closed.0 c.in_ok-new.field-0 c.requires.closed.1 refl (subst (λ r. IsSound (row_view r)) (sym c.in_ok-new.ensures.ok) row.0) (ap (λ r. tree_text (row_view r)) c.in_ok-new.ensures.ok ∙ row.1)
