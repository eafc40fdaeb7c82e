use Rattle.std.proofs.Common.{◌∙◌, ap, rules}
use Rattle.std.specs.Box.{with_value}
use Rattle.json_pieces.specs.Backs.{IsBack, step_of}
use Rattle.json_pieces.specs.declared.node.Node.{the_lemmas}
use Rattle.json_pieces.proofs.Backs.{in_row, through}
use Rattle.json_pieces.proofs.back.back_here.Goals as goal

pub back_row-requires-clause-can : goal.back_row-requires-clause-can
back_row-requires-clause-can c = in_row (IsBack (step_of c.args.step)) c.args.node.now c.in-Open.row c.deref_mut.result.now c.in-Open.is (c.deref_mut.ensures.value ∙ ap (λ b. b.value) c.in-Open.row-is) c.requires

pub returns : goal.returns
returns c =
    through (IsBack (step_of c.args.step)) c.args.node.now _ c.in-Open.row (with_value c.in-Open.row c.back_row.new.row) c.deref_mut.result.now c.in-Open.is (search (rules, the_lemmas)) (c.deref_mut.ensures.value ∙ ap (λ b. b.value) c.in-Open.row-is) c.back_row.ensures
