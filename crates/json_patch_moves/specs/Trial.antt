-- For private clauses: when a patch with moves is taken in place of another.
use Rattle.std.specs.Prelude.{◌≤◌, List, length}
use Rattle.serde_json.specs.Data.{Data, depth}
use Rattle.json_patch.specs.Limits.{Limits}
use Rattle.json_patch.specs.Operation.{Operation, AreWhole}
use Rattle.json_patch.specs.OverLimits.{IsNeverOver}
use Rattle.json_patch.specs.Run.{Accepts}
use Rattle.json_patch_diff.specs.Size.{text_size}
use Rattle.json_patch_moves.specs.Moving.{AreMoving}

-- the operations lead from d to e as the plain ones do, with no more operations and no longer text, and put no value deeper than e has levels
pub record Serves (d e : Data) (ops plain : List Operation) : Type 0 where
  pub whole : AreWhole ops
  pub moving : AreMoving ops
  pub few : length ops ≤ length plain
  pub short : text_size ops ≤ text_size plain
  pub accepts : Accepts d ops e
  pub low : Limits
  pub shallow : low.depth ≤ depth e
  pub under : IsNeverOver low d ops
