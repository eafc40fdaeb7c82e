use Rattle.std.proofs.lemmas.Result.{IfOk-weaker}
use Rattle.serde_json.specs.View.{view}
use Rattle.jsonptr.specs.Pointers.{tokens_of}
use Rattle.json_diff_text.proofs.Spelled.{of_same, spelled_there, when_ok}
use Rattle.json_diff_text.proofs.spelling.spelled_value.Goals as goal

pub returns-then-same : goal.returns-then-same
returns-then-same c =
    IfOk-weaker c.clone-then-same.result _ _
    (λ v is. spelled_there (view c.args.told.now) (view c.args.written.now) (view c.args.value.now) (view v) (view c.in-Some.here.now) (view c.in-Some-lookup.spelled.now) (tokens_of c.args.path) c.requires.written c.in-Some.ensures.found c.in-Some-lookup.ensures.found
    (of_same (view c.args.told.now) (tokens_of c.args.path) (view c.in-Some.here.now) (view c.args.value.now) c.same.result c.requires.told c.in-Some.ensures.found c.same.ensures.documents c.if-same.true) is)
    (when_ok c.clone-then-same.result _ c.clone-then-same.ensures.cases)
