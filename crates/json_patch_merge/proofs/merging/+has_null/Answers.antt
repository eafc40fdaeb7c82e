use Rattle.json_patch_merge.proofs.Common.{rules}
use Rattle.json_patch_merge.proofs.MergeFills.{other_value, nothing_of_another, nothing_of_object}
use Rattle.json_patch_merge.proofs.merging.+has_null.Goals as goal

pub returns-in_default : goal.returns-in_default
returns-in_default t c b = nothing_of_another _ (other_value c.args.patch.now c.in_default.not-Object)

pub returns : goal.returns
returns t c b = nothing_of_object _ _ c.in-Object.is (c.loop-change.invariant (search rules))
