use Rattle.std.proofs.Common.{◌∷◌, ◌∙◌, ap, refl, sym, take}
use Rattle.std.specs.Prelude.{map, string_bytes}
use Rattle.std.proofs.lemmas.List.{take-map}
use Rattle.json_patch_uses.proofs.TextTrails.{applied}
use Rattle.json_patch_uses.specs.TextEditors.{held}
use Rattle.json_patch_uses.proofs.text_editor.TextEditor.apply.Goals as goal

pub returns-clause-applied : goal.returns-clause-applied
returns-clause-applied c =
    let a = c.led_alike.ensures in let s = c.args.self.now in let u = c.in_ok-undo in let said = c.limits.ensures.readable.1 in
    applied a.turned a.from_same a.to_same a.one_end (held s) _ (string_bytes u.undo)
    (ap (map string_bytes) (c.truncate.ensures.items ∙ ap (take s.depth) (c.push_front_reserved.ensures.items ∙ ap (λ us. u.undo ∷ us) c.reserve.ensures.items)) ∙ sym (take-map string_bytes s.depth (u.undo ∷ s.undos.items)))
    (ap (map string_bytes) c.clear.ensures.items) refl (a.itself _ said.0 said.1) u.ensures.leads_back u.ensures.readable
