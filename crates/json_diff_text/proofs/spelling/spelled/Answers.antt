use Rattle.std.proofs.Common.{arith, drop}
use Rattle.serde_json.specs.View.{view}
use Rattle.json_patch_operation.specs.Operation.{operations}
use Rattle.json_diff_text.proofs.Coded.{next_of}
use Rattle.json_diff_text.proofs.Spelled.{pushed_op}
use Rattle.json_diff_text.proofs.spelling.spelled.Goals as goal

pub loop-operation-preserved : goal.loop-operation-preserved
loop-operation-preserved c =
    pushed_op (view c.args.told.now) (view c.args.written.now) (operations c.args.patch.now.0.items) c.loop-operation.operations.items c.in_ok-spelled_operation.field-0 c.push.new.self.items c.operation-item.result (drop c.loop-operation.operation-index c.deref-operation-items.result.now) _ c.in_ok-push.ensures.items
    (next_of c.deref-operation-items.result.now c.loop-operation.operation-index c.operation-item.result (omega (arith, c.loop-operation-test.true)) c.operation-item.is) c.loop-operation.invariant c.in_ok-spelled_operation.ensures
