use Rattle.std.proofs.Common.{◌∷◌, ◌∙◌, ap}
use Rattle.json_patch_uses.proofs.settings.Settings.change.Goals as goal

pub returns-clause-traced : goal.returns-clause-traced
returns-clause-traced c =
    (c.in_ok-undo.undo, c.in_ok-undo.ensures.leads_back, c.push_front_reserved.ensures.items ∙ ap (λ ps. c.in_ok-undo.undo ∷ ps) c.reserve.ensures.items)
