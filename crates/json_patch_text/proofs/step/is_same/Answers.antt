use Rattle.std.proofs.Common.{◌∙◌, refl, sym}
use Rattle.std.proofs.lemmas.Slice.Eq.{bytes_eq-Decides}
use Rattle.json_patch_text.proofs.Made.{equal_texts}
use Rattle.json_patch_text.proofs.step.is_same.Goals as goal

pub returns-then-eq : goal.returns-then-eq
returns-then-eq c v w s t = (λ e. equal_texts c.args.a.now c.args.b.now v w ((bytes_eq-Decides c.args.a.now c.args.b.now).0 (sym c.eq.ensures ∙ c.if-eq.true)) s t, λ same. refl)
