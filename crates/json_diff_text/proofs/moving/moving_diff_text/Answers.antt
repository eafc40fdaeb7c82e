use Rattle.std.proofs.Common.{true, string_bytes}
use Rattle.std.proofs.lemmas.Result.{IfOk-weaker}
use Rattle.json_diff_text.proofs.Between.{accepts_patch, few_between, moving_patch, never_deep, nothing_exactly, patch_readable}
use Rattle.json_diff_text.proofs.moving.moving_diff_text.Goals as goal

pub returns-clause-leads : goal.returns-clause-leads
returns-clause-leads c = IfOk-weaker c.difference.result _ _ (λ s h. accepts_patch true c.args.from.now c.args.to.now (string_bytes s) h) c.difference.ensures.text

pub returns-clause-nothing : goal.returns-clause-nothing
returns-clause-nothing c = IfOk-weaker c.difference.result _ _ (λ s h. nothing_exactly true c.args.from.now c.args.to.now (string_bytes s) h) c.difference.ensures.text

pub returns-clause-few : goal.returns-clause-few
returns-clause-few c = IfOk-weaker c.difference.result _ _ (λ s h. few_between true c.args.from.now c.args.to.now (string_bytes s) h) c.difference.ensures.text

pub returns-clause-readable : goal.returns-clause-readable
returns-clause-readable c = IfOk-weaker c.difference.result _ _ (λ s h. patch_readable true c.args.from.now c.args.to.now (string_bytes s) h) c.difference.ensures.text

pub returns-clause-never : goal.returns-clause-never
returns-clause-never c = IfOk-weaker c.difference.result _ _ (λ s h. never_deep true c.args.from.now c.args.to.now (string_bytes s) h) c.difference.ensures.text

pub returns-clause-moving : goal.returns-clause-moving
returns-clause-moving c = IfOk-weaker c.difference.result _ _ (λ s h. moving_patch true c.args.from.now c.args.to.now (string_bytes s) h) c.difference.ensures.text
