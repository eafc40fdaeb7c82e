-- For private clauses: the operations between two trees, on documents that stand for them.
use Rattle.std.specs.Prelude.{ℕ, List, Bool}
use Rattle.json.specs.Json.{Json}
use Rattle.serde_json.specs.Data.{Data}
use Rattle.json_patch_document.specs.Document.{IsDocument}
use Rattle.json_patch_operation.specs.Operation.{Operation}
use Rattle.json_diff_text.specs.Differences.{IsBetween}
use Rattle.json_diff_text.specs.Numerals.{StandsFor}
use Rattle.json_diff_text.specs.Spellings.{AreSpellings}

-- the operations are those made between documents for the trees, with their values as the second tree writes them
pub record AreEdits (moves : Bool) (ts : List (List ℕ)) (i j : Json) (os : List Operation) : Type 0 where
  pub old : Data
  pub new : Data
  pub written : Data
  pub made : List Operation
  pub first : StandsFor ts old i
  pub second : StandsFor ts new j
  pub spelled : StandsFor ts written j
  pub document : IsDocument old
  pub between : IsBetween moves old new made
  pub alike : AreSpellings new written made os
