-- For private clauses: how far a run has come.
use Rattle.std.specs.Prelude.{◌≡◌, ℕ, List, [], ◌∷◌, take, Ok}
use Rattle.json.specs.Json.{Json}
use Rattle.json_patch_text.specs.Made.{AreMadeIn}
use Rattle.json_patch_text.specs.Operations.{TreeOperation}
use Rattle.json_patch_text.specs.Step.{ComesTo}
use Rattle.json_patch_text.specs.TextOperations.{AreWrittenAs}
use Rattle.json_patch_text.specs.declared.operation.TextOperation.{TextOperation}
use Rattle.json_lexemes.specs.Spelled.{Says}

-- the operations come to j, one after another
abbrev pub Reaches : Json → List TreeOperation → Json → Type 0
Reaches i [] j = i ≡ j
Reaches i (op ∷ ops) j = (m : Json) × ComesTo i op (Ok m) × Reaches m ops j

-- the first k operations have made new of the text, and it says what they come to
pub record IsReached (text : List ℕ) (os : List TextOperation) (k : ℕ) (new : List ℕ) : Type 0 where
  pub made : AreMadeIn text (take k os) new
  pub tree : (i : Json) (ops : List TreeOperation) → Says text i → AreWrittenAs os ops → (m : Json) × Says new m × Reaches i (take k ops) m
