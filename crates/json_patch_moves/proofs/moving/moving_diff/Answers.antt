use Rattle.std.proofs.Common.{[], ◌∷◌}
use Rattle.serde_json.specs.View.{view}
use Rattle.json_patch.specs.Operation.{operations_of, replace}
use Rattle.json_patch_moves.proofs.Serving.{plain_moving, serves_least, serves_shallow, serves_under}
use Rattle.json_patch_moves.proofs.moving.moving_diff.Goals as goal

pub returns-in_default-clause-moving : goal.returns-in_default-clause-moving
returns-in_default-clause-moving c = plain_moving (view c.args.from.now) (operations_of c.in_ok-plain.plain) c.in_ok-plain.ensures.plain

pub returns-else-branch-clause-moving : goal.returns-else-branch-clause-moving
returns-else-branch-clause-moving c = plain_moving (view c.args.from.now) (operations_of c.in_ok-plain.plain) c.in_ok-plain.ensures.plain

pub returns-then-branch-clause-short : goal.returns-then-branch-clause-short
returns-then-branch-clause-short c = serves_least _ _ _ _ (replace [] (view c.args.to.now) ∷ []) (c.in_ok-serves.ensures c.if-branch.true) c.in_ok-plain.ensures.short

pub returns-then-branch-clause-least : goal.returns-then-branch-clause-least
returns-then-branch-clause-least c others h = serves_least _ _ _ _ others (c.in_ok-serves.ensures c.if-branch.true) (c.in_ok-plain.ensures.least others h)

pub returns-then-branch-clause-shallow : goal.returns-then-branch-clause-shallow
returns-then-branch-clause-shallow c = serves_shallow _ _ _ _ (c.in_ok-serves.ensures c.if-branch.true)

pub returns-then-branch-clause-never : goal.returns-then-branch-clause-never
returns-then-branch-clause-never c = λ l low. serves_under _ _ _ _ l (c.in_ok-serves.ensures c.if-branch.true) low
