use Rattle.std.proofs.lemmas.Result.{IfOk-weaker}
use Rattle.json.specs.Value.{value_view}
use Rattle.json_merge_text.proofs.Possible.{read_same}
use Rattle.json_merge_text.proofs.texts.reads_as.Goals as goal

pub returns : goal.returns
returns c =
    IfOk-weaker c.same_tree.result _ _
    (λ same decides i says. read_same c.args.text.now (value_view c.in-Ok.here) i (value_view c.args.value.now) same c.in-Ok.ensures.ok decides says)
    c.same_tree.ensures
