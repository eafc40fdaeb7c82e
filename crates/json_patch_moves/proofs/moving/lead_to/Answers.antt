use Rattle.std.proofs.Common.{rules, ◌≡◌, subst}
use Rattle.serde_json.specs.View.{view}
use Rattle.json_patch.specs.Limits.{Limits}
use Rattle.json_patch.specs.Operation.{operations}
use Rattle.json_patch.specs.OverLimits.{IsNeverOver}
use Rattle.json_patch_moves.proofs.moving.lead_to.Goals as goal

pub returns-in-Ok-clause-under : goal.returns-in-Ok-clause-under
returns-in-Ok-clause-under c same =
    let low : Limits = record { depth = c.levels.result; copied = 0 } in
    let copied : view c.in_ok-work.work ≡ view c.args.from.now = search rules in
    (low, c.levels.ensures, subst (λ d. IsNeverOver low d (operations c.args.changes.now)) copied c.in-Ok.ensures.never)
