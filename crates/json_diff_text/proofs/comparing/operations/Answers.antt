use Rattle.serde_json.specs.View.{view}
use Rattle.json_patch_operation.specs.Operation.{operations_of}
use Rattle.json_diff_text.proofs.Between.{plain_between}
use Rattle.json_diff_text.proofs.comparing.operations.Goals as goal

pub returns-else-moves : goal.returns-else-moves
returns-else-moves c =
    let made = c.diff.ensures in
    plain_between c.diff.result operations_of c.args.moves (view c.args.from.now) (view c.args.to.now) made.leads made.whole made.plain made.few made.shallow made.never
