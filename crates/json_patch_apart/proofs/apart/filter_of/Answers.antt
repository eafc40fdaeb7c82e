use Rattle.std.proofs.Common.{rules}
use Rattle.json_patch_apart.proofs.Filters.{kept_itself, kept_on, none_left, one_left, op_kept}
use Rattle.json_patch_apart.proofs.apart.filter_of.Goals as goal

pub loop-operation-preserved : goal.loop-operation-preserved
loop-operation-preserved c = λ f k rest. c.loop-operation.invariant f (kept_on _ _ _ c.put_in.ensures.kept k)
    (one_left f _ c.loop-operation.operation-index c.operation-item.result (search rules) (search rules) (op_kept _ f _ k c.put_in.ensures.has) rest)

pub returns : goal.returns
returns c = c.loop-operation.invariant _ (kept_itself _, kept_itself _) (none_left _ c.args.few.now c.loop-operation.operation-index (search rules))
