-- What `diff_text` promises of the text that was lent it promises of the one that is kept.
use Rattle.std.proofs.Common.{◌↔◌, ◌∙◌, [], ap, max, subst}
use Rattle.std.specs.Prelude.{IfOk, string_bytes}
use Rattle.json_diff_text.specs.Differences.{IsFewBetween, IsPlainPatch, SaySame}
use Rattle.json_kept_text.specs.Kept.{State}
use Rattle.json_lexemes.specs.Skipped.{nesting}
use Rattle.json_patch_text.specs.Operations.{SaysOperations}
use Rattle.json_patch_text.specs.Patched.{AcceptsPatch}
use Rattle.json_patch_text.specs.Shallow.{IsNeverTooDeep}
use Rattle.json_kept_text.proofs.kept.KeptText.diff_to.Goals as goal

pub returns-clause-leads : goal.returns-clause-leads
returns-clause-leads c =
    subst (λ t. IfOk c.diff_text.result (λ patch. AcceptsPatch t (string_bytes patch) c.args.to.now)) (c.as_str.ensures.value ∙ c.in_ok-text.ensures ∙ ap (λ (k : State). k.text) c.self.view_is) c.diff_text.ensures.leads

pub returns-clause-plain : goal.returns-clause-plain
returns-clause-plain c =
    subst (λ t. IfOk c.diff_text.result (λ patch. IsPlainPatch t (string_bytes patch))) (c.as_str.ensures.value ∙ c.in_ok-text.ensures ∙ ap (λ (k : State). k.text) c.self.view_is) c.diff_text.ensures.plain

pub returns-clause-nothing : goal.returns-clause-nothing
returns-clause-nothing c =
    subst (λ t. IfOk c.diff_text.result (λ patch. SaysOperations (string_bytes patch) [] ↔ SaySame t c.args.to.now)) (c.as_str.ensures.value ∙ c.in_ok-text.ensures ∙ ap (λ (k : State). k.text) c.self.view_is) c.diff_text.ensures.nothing

pub returns-clause-few : goal.returns-clause-few
returns-clause-few c =
    subst (λ t. IfOk c.diff_text.result (λ patch. IsFewBetween t c.args.to.now (string_bytes patch))) (c.as_str.ensures.value ∙ c.in_ok-text.ensures ∙ ap (λ (k : State). k.text) c.self.view_is) c.diff_text.ensures.few

pub returns-clause-never : goal.returns-clause-never
returns-clause-never c =
    subst (λ t. IfOk c.diff_text.result (λ patch. IsNeverTooDeep (max (nesting t) (nesting c.args.to.now)) t (string_bytes patch))) (c.as_str.ensures.value ∙ c.in_ok-text.ensures ∙ ap (λ (k : State). k.text) c.self.view_is) c.diff_text.ensures.never
