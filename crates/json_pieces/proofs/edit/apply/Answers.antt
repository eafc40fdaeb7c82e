use Rattle.std.proofs.Common.{◌∙◌, ◌++◌, ◌∷◌, [], ap, sym}
use Rattle.json_pieces.specs.Held.{held}
use Rattle.json_pieces.specs.declared.back.Back.TheVariants.{Swap}
use Rattle.json_pieces.specs.declared.node.Node.TheVariants.{Closed}
use Rattle.json_pieces.specs.declared.text.Text.TheVariants.{Made}
use Rattle.json_pieces.proofs.Levels.{closed_text}
use Rattle.json_pieces.proofs.Stepped.{stepped_none, stepped_one}
use Rattle.json_pieces.proofs.Walks.{put_made, read_made}
use Rattle.json_pieces.proofs.edit.apply.Goals as goal

pub returns-in_ok-written-in-Read-clause-makes : goal.returns-in_ok-written-in-Read-clause-makes
returns-in_ok-written-in-Read-clause-makes c = read_made c.args.node.now (Closed (Made c.in_ok-written-in-Read.field-0)) c.args.edit c.requires.whole c.in-Read.is (closed_text (Made c.in_ok-written-in-Read.field-0) ∙ c.in_ok-written-in-Read.ensures)

pub returns-in_ok-ready-in-Put-clause-makes : goal.returns-in_ok-ready-in-Put-clause-makes
returns-in_ok-ready-in-Put-clause-makes c = put_made c.args.node.now c.replace-old.new.dest c.in-Put.value _ c.args.edit c.requires.whole c.in-Put.is c.replace-old.ensures.after

pub returns-in_err-written-in-Read-clause-led : goal.returns-in_err-written-in-Read-clause-led
returns-in_err-written-in-Read-clause-led c = λ on. stepped_none c.args.work.now.steps.items (held c.args.node.now) c.requires.steps

pub returns-in_ok-written-in-Read-clause-led : goal.returns-in_ok-written-in-Read-clause-led
returns-in_ok-written-in-Read-clause-led c = λ on. stepped_none c.args.work.now.steps.items (held c.args.node.now) c.requires.steps

pub returns-in_err-resized-in-Put-clause-led : goal.returns-in_err-resized-in-Put-clause-led
returns-in_err-resized-in-Put-clause-led c = λ on. stepped_none c.args.work.now.steps.items (held c.args.node.now) c.requires.steps

pub returns-in_err-ready-in-Put-clause-led : goal.returns-in_err-ready-in-Put-clause-led
returns-in_err-ready-in-Put-clause-led c = λ on. stepped_none c.ready.new.self.steps.items (held c.args.node.now) (c.ready.ensures.steps ∙ c.requires.steps)

pub returns-in_ok-ready-in-Put-clause-led : goal.returns-in_ok-ready-in-Put-clause-led
returns-in_ok-ready-in-Put-clause-led c = λ on.
    let step = Swap c.replace-old.result in
    stepped_one c.keep.new.self.steps.items step (held c.args.node.now) (held c.replace-old.new.dest) (c.keep.ensures.steps (c.ready.ensures.logged ∙ on) ∙ ap (λ l. l ++ step ∷ []) (c.ready.ensures.steps ∙ c.requires.steps)) (ap held (sym c.replace-old.ensures.value))
