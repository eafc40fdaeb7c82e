use Rattle.std.proofs.Common.{false, string_bytes}
use Rattle.std.proofs.lemmas.Result.{IfOk-weaker}
use Rattle.json_diff_text.proofs.Between.{accepts_patch, few_between, never_deep, nothing_exactly, patch_readable, plain_patch}
use Rattle.json_diff_text.proofs.difference.diff_text.Goals as goal

pub returns-clause-leads : goal.returns-clause-leads
returns-clause-leads c = IfOk-weaker c.difference.result _ _ (λ s h. accepts_patch false c.args.from.now c.args.to.now (string_bytes s) h) c.difference.ensures.text

pub returns-clause-nothing : goal.returns-clause-nothing
returns-clause-nothing c = IfOk-weaker c.difference.result _ _ (λ s h. nothing_exactly false c.args.from.now c.args.to.now (string_bytes s) h) c.difference.ensures.text

pub returns-clause-few : goal.returns-clause-few
returns-clause-few c = IfOk-weaker c.difference.result _ _ (λ s h. few_between false c.args.from.now c.args.to.now (string_bytes s) h) c.difference.ensures.text

pub returns-clause-readable : goal.returns-clause-readable
returns-clause-readable c = IfOk-weaker c.difference.result _ _ (λ s h. patch_readable false c.args.from.now c.args.to.now (string_bytes s) h) c.difference.ensures.text

pub returns-clause-never : goal.returns-clause-never
returns-clause-never c = IfOk-weaker c.difference.result _ _ (λ s h. never_deep false c.args.from.now c.args.to.now (string_bytes s) h) c.difference.ensures.text

pub returns-clause-plain : goal.returns-clause-plain
returns-clause-plain c = IfOk-weaker c.difference.result _ _ (λ s h. plain_patch c.args.from.now c.args.to.now (string_bytes s) h) c.difference.ensures.text
