use Rattle.std.proofs.Common.{[], ◌∙◌, ◌++◌, ◌∷◌, ap, sym}
use Rattle.json_pieces.specs.Held.{held}
use Rattle.json_pieces.specs.declared.back.Back.TheVariants.{Swap}
use Rattle.json_pieces.proofs.Stepped.{stepped_none, stepped_one}
use Rattle.json_pieces.proofs.edit.put_text.Goals as goal

pub returns-in_err-ready-clause-led : goal.returns-in_err-ready-clause-led
returns-in_err-ready-clause-led c = λ on. stepped_none c.ready.new.self.steps.items (held c.args.node.now) (c.ready.ensures.steps ∙ c.requires.steps)

pub returns-clause-led : goal.returns-clause-led
returns-clause-led c = λ on.
    let step = Swap c.replace-before.result in
    stepped_one c.keep.new.self.steps.items step (held c.args.node.now) (held c.replace-before.new.dest) (c.keep.ensures.steps (c.ready.ensures.logged ∙ on) ∙ ap (λ l. l ++ step ∷ []) (c.ready.ensures.steps ∙ c.requires.steps)) (ap held (sym c.replace-before.ensures.value))
