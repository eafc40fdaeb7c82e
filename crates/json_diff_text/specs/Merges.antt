-- The merge patch between two texts, and one that does what two do in turn, as texts (RFC 7396).
use Rattle.std.specs.Prelude.{◌≡◌, ◌≤◌, ℕ, List, Option, Some, None, String, max, ⊤}
use Rattle.std.specs.String.{string_bytes}
use Rattle.std.specs.declared.alloc.Global.{Global}
use Rattle.json.specs.Json.{Json, object, no_members}
use Rattle.json.specs.Tree.{depth}
use Rattle.json_lexemes.specs.Spelled.{Says}
use Rattle.json_merge_diff.specs.Leads.{DoesBoth, Resets, WantsNull}
use Rattle.json_merge_text.specs.Merged.{IsMergedTree}
use Rattle.json_patch_text.specs.Made.{IsNoText}
use Rattle.json_reading.specs.Reading.{Reading}
use Rattle.json_reading.specs.Same.{SameTree}
use Rattle.json_reading.specs.Trees.{data_of}
use Rattle.json_diff_text.specs.declared.fault.DiffTextFault.{DiffTextFault}
use Rattle.json_diff_text.specs.declared.fault.DiffTextFault.TheVariants.{From, To, Memory}
use Rattle.json_diff_text.specs.declared.fault.BothTextFault.{BothTextFault}
use Rattle.json_diff_text.specs.declared.fault.BothTextFault.TheVariants as both

-- the text says {}
abbrev pub SaysEmpty : List ℕ → Type 0
SaysEmpty text = Says text (object no_members)

-- {} leads from what the one text says to what the other says: both say objects that are the same, or the first says none, and the
-- second {}
abbrev pub IsLedByEmpty : List ℕ → List ℕ → Type 0
IsLedByEmpty from to = (i j : Json) × Says from i × Says to j × IsMergedTree i (object no_members) j

-- under each reading what the second text says wants a null
abbrev pub TextWantsNull : List ℕ → List ℕ → Type 0
TextWantsNull from to = (i j : Json) × Says from i × Says to j × ((r : Reading) → WantsNull (data_of r i) (data_of r j))

-- under each reading s does what the merge patches p and then q do
abbrev pub DoesBothTrees : Json → Json → Json → Type 0
DoesBothTrees p q s = (r : Reading) → DoesBoth (data_of r p) (data_of r q) (data_of r s)

-- the patch's text says one that does what both texts say
abbrev pub SaysBoth : List ℕ → List ℕ → List ℕ → Type 0
SaysBoth first then patch = (p q s : Json) × Says first p × Says then q × Says patch s × DoesBothTrees p q s

-- under each reading what the first text says resets what the second changes
abbrev pub TextResets : List ℕ → List ℕ → Type 0
TextResets first then = (p q : Json) × Says first p × Says then q × ((r : Reading) → Resets (data_of r p) (data_of r q))

-- why there is no answer
abbrev pub IsMergeDiffFault : List ℕ → List ℕ → DiffTextFault → Type 0
IsMergeDiffFault from to (From f) = IsNoText from f
IsMergeDiffFault from to (To f) = IsNoText to f
IsMergeDiffFault from to (Memory m) = ⊤

abbrev pub IsBothTextFault : List ℕ → List ℕ → BothTextFault → Type 0
IsBothTextFault first then (both.First f) = IsNoText first f
IsBothTextFault first then (both.Then f) = IsNoText then f
IsBothTextFault first then (both.Memory m) = ⊤

-- ---- for private clauses

-- both are objects, and the same
abbrev pub AreSameObjects : Json → Json → Type 0
AreSameObjects i (object ms) = SameTree i (object ms)
AreSameObjects i j = ⊥

-- the text says a merge patch that leads from the one tree to the other
pub record IsMergePatch (i j : Json) (s : List ℕ) : Type 0 where
  pub patch : Json
  pub says : Says s patch
  pub leads : IsMergedTree i patch j
  pub empty : IsMergedTree i (object no_members) j → patch ≡ object no_members
  pub low : depth patch ≤ depth j

abbrev pub IsMergePatchOrNone : Json → Json → Option (String Global) → Type 0
IsMergePatchOrNone i j (Some s) = IsMergePatch i j (string_bytes s)
IsMergePatchOrNone i j None = (r : Reading) → WantsNull (data_of r i) (data_of r j)

-- the text says one that does what both trees do
pub record IsBothPatch (p q : Json) (s : List ℕ) : Type 0 where
  pub patch : Json
  pub says : Says s patch
  pub does : DoesBothTrees p q patch
  pub low : depth patch ≤ max (depth p) (depth q)

abbrev pub IsBothPatchOrNone : Json → Json → Option (String Global) → Type 0
IsBothPatchOrNone p q (Some s) = IsBothPatch p q (string_bytes s)
IsBothPatchOrNone p q None = (r : Reading) → Resets (data_of r p) (data_of r q)
