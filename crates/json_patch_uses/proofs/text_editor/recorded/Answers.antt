use Rattle.std.proofs.Common.{subst}
use Rattle.std.specs.Prelude.{IsSomeAnd, string_bytes}
use Rattle.json_patch_text.specs.Patched.{AcceptsPatch}
use Rattle.json_patch_uses.proofs.TextTrails.{found_back}
use Rattle.json_patch_uses.proofs.text_editor.recorded.Goals as goal

pub returns-in-Ok-Some-clause-leads_back : goal.returns-in-Ok-Some-clause-leads_back
returns-in-Ok-Some-clause-leads_back c =
    subst (λ found. IsSomeAnd found (λ s. AcceptsPatch c.patch_recorded.new.self.text (string_bytes s) c.args.kept.now.text)) c.in-Ok-Some.field-0-is
    (found_back (λ q. AcceptsPatch c.patch_recorded.new.self.text q c.args.kept.now.text) c.patch_recorded.new.self.last c.in-Ok-Some.field-0 c.in-Ok-Some.ensures.inverse c.in_ok-patch_recorded.ensures.leads_back)
