use Rattle.std.proofs.Common.{◌∙◌, ◌-◌, ◌≡◌, Some, ap, length, subst, sym}
use Rattle.std.specs.List.{slice_get}
use Rattle.std.specs.Option.{option_copied}
use Rattle.json_pieces.proofs.Logs.{over_last}
use Rattle.json_pieces.proofs.log.Log.starts_over.Goals as goal

pub returns-in-Some : goal.returns-in-Some
returns-in-Some c = λ yes.
    over_last c.args.self.now c.in-On.changes c.in-On.field-1 c.in-Some.change.now c.in-On.is
    (subst (λ l. slice_get l (length l - 1) ≡ Some c.in-Some.change.now) c.deref.ensures.value (sym c.last.ensures.value ∙ ap option_copied c.in-Some.is))
    (c.starts_over.ensures yes)
