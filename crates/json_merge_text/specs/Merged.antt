-- A JSON text into which the text of a merge patch is merged in place (RFC 7396).
use Rattle.std.specs.Prelude.{◌<◌, ◌+◌, ℕ, List, [], length, ⊤}
use Rattle.json.specs.Json.{Json}
use Rattle.json_merge_text.specs.Merging.{IsChanged, MergesInto}
use Rattle.json_merge_text.specs.declared.fault.MergeTextFault.{MergeTextFault}
use Rattle.json_merge_text.specs.declared.fault.MergeTextFault.TheVariants.{Document, Patch, Memory}
use Rattle.json_patch_merge.specs.Merged.{IsMerged}
use Rattle.json_patch_text.specs.Made.{IsNoText}
use Rattle.json_reading.specs.Reading.{Reading}
use Rattle.json_reading.specs.Trees.{data_of}
use Rattle.json_lexemes.specs.Spelled.{Says}

-- under each reading the document of j is that of i with the merge patch p merged into it
abbrev pub IsMergedTree : Json → Json → Json → Type 0
IsMergedTree i p j = (r : Reading) → IsMerged (data_of r i) (data_of r p) (data_of r j)

-- what the new text says is what the text says with what the patch says merged into it
abbrev pub SaysMerged : List ℕ → List ℕ → List ℕ → Type 0
SaysMerged text patch new = (i : Json) × (p : Json) × (j : Json) × Says text i × Says patch p × Says new j × IsMergedTree i p j

-- new is the text with each change of the merge made in turn, and every other byte kept
abbrev pub IsMergedText : List ℕ → List ℕ → List ℕ → Type 0
IsMergedText text patch new = (i : Json) × (p : Json) × Says text i × Says patch p × IsChanged text new (MergesInto patch [] i p)

-- what the text says is as it is with what the patch says merged into it
abbrev pub IsMergedAlready : List ℕ → List ℕ → Type 0
IsMergedAlready text patch = SaysMerged text patch text

-- ---- how long the new text may be

-- as long as both texts together, and so many bytes more
abbrev pub most_bytes : ℕ → List ℕ → List ℕ → ℕ
most_bytes copied text patch = length text + (length patch + copied)

-- the merge would leave a text that is longer
abbrev pub IsMergeOver : ℕ → List ℕ → List ℕ → Type 0
IsMergeOver copied text patch = (new : List ℕ) × IsMergedText text patch new × (most_bytes copied text patch < length new)

-- why nothing is merged into the text
abbrev pub IsMergeTextFault : List ℕ → List ℕ → MergeTextFault → Type 0
IsMergeTextFault text patch (Document f) = IsNoText text f
IsMergeTextFault text patch (Patch f) = IsNoText patch f
IsMergeTextFault text patch (Memory m) = ⊤
