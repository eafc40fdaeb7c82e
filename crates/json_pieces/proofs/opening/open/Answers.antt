use Rattle.std.proofs.Common.{◌≡◌, ◌∙◌, ap, refl, rules}
use Rattle.std.specs.Box.{with_value}
use Rattle.json_pieces.specs.Held.{held}
use Rattle.json_pieces.specs.Nodes.{IsWhole, row_view, tree_text, view}
use Rattle.json_pieces.specs.declared.node.Node.{the_lemmas}
use Rattle.json_pieces.proofs.Opened.{opened_same, opened_text, opened_through, opened_whole}
use Rattle.json_pieces.proofs.Walks.{known, open_opened, row_stays}
use Rattle.json_pieces.proofs.opening.open.Goals as goal

pub returns-in-Open-clause-whole : goal.returns-in-Open-clause-whole
returns-in-Open-clause-whole c =
    row_stays IsWhole c.args.node.now _ c.in-Open.row c.ask.new.row c.in-Open.is (search (rules, the_lemmas)) (c.ask.ensures.view ∙ ap row_view (c.deref_mut.ensures.value ∙ ap (λ b. b.value) c.in-Open.row-is)) c.requires

pub returns-in-Open-clause-text : goal.returns-in-Open-clause-text
returns-in-Open-clause-text c =
    row_stays (λ t. tree_text t ≡ tree_text (view c.args.node.now)) c.args.node.now _ c.in-Open.row c.ask.new.row c.in-Open.is (search (rules, the_lemmas)) (c.ask.ensures.view ∙ ap row_view (c.deref_mut.ensures.value ∙ ap (λ b. b.value) c.in-Open.row-is)) refl

pub returns-in-Open-clause-opened : goal.returns-in-Open-clause-opened
returns-in-Open-clause-opened c = known c.ask.result (open_opened _ (with_value c.in-Open.row c.ask.new.row) (search (rules, the_lemmas)))

pub returns-in-Open-clause-finer : goal.returns-in-Open-clause-finer
returns-in-Open-clause-finer c =
    opened_through c.args.node.now _ c.in-Open.row (with_value c.in-Open.row c.ask.new.row) c.deref_mut.result.now c.in-Open.is (search (rules, the_lemmas)) (c.deref_mut.ensures.value ∙ ap (λ b. b.value) c.in-Open.row-is) (opened_same _ _ c.ask.ensures.held)

pub returns-in-Closed-clause-whole : goal.returns-in-Closed-clause-whole
returns-in-Closed-clause-whole c = opened_whole (held c.args.node.now) (held c.open_closed.new.node) c.open_closed.ensures.finer c.requires

pub returns-in-Closed-clause-text : goal.returns-in-Closed-clause-text
returns-in-Closed-clause-text c = opened_text (held c.args.node.now) (held c.open_closed.new.node) c.open_closed.ensures.finer
