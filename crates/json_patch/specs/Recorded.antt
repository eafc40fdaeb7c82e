-- For private clauses: what a recorded run answers.
use Rattle.std.specs.Prelude.{◌≤◌, ◌*◌, List, length}
use Rattle.serde_json.specs.Data.{Data}
use Rattle.json_patch_laws.specs.Inverse.{ArePlain, IsInverse}
use Rattle.json_patch_operation.specs.Operation.{AreWhole, Operation}
use Rattle.json_patch_laws.specs.Run.{IsAccepted}

-- undo is the patch that leads from e back to d, where ops led
pub record Records (d e : Data) (ops undo : List Operation) : Type 0 where
  pub inverse : IsInverse d ops undo
  pub leads_back : IsAccepted e undo d
  pub plain : ArePlain e undo
  pub short : length undo ≤ 2 * length ops
  pub whole : AreWhole undo
