use Rattle.std.proofs.Common.{Bool}
use Rattle.std.specs.Bool.{Decides}
use Rattle.std.proofs.lemmas.Result.{IfOk-weaker}
use Rattle.json.specs.Value.{value_view}
use Rattle.json_reading.specs.Same.{SameTree}
use Rattle.json_patch_text.proofs.Made.{compared}
use Rattle.json_patch_text.proofs.step.read_same.Goals as goal

pub returns : goal.returns
returns c v w s t =
    IfOk-weaker c.same_tree.result (λ (same : Bool). Decides same (SameTree (value_view c.in-Ok.a) (value_view c.in-Ok-parse.b))) (λ (same : Bool). Decides same (SameTree v w))
    (λ same h. compared c.args.a.now c.args.b.now (value_view c.in-Ok.a) (value_view c.in-Ok-parse.b) v w same c.in-Ok.ensures.ok c.in-Ok-parse.ensures.ok s t h) c.same_tree.ensures
