-- Why a text isn't kept, merged into, or led from, within limits.
use Rattle.std.specs.Prelude.{◌≤◌, ◌<◌, List, ℕ, ⊤}
use Rattle.json.specs.Json.{Json}
use Rattle.json_diff_text.specs.declared.fault.DiffTextFault.{DiffTextFault}
use Rattle.json_diff_text.specs.declared.fault.DiffTextFault.TheVariants as diff
use Rattle.json_kept_text.specs.declared.fault.MergeLimitFault.{MergeLimitFault}
use Rattle.json_kept_text.specs.declared.fault.MergeLimitFault.TheVariants.{Merge, TooLong}
use Rattle.json_lexemes.specs.Skipped.{nesting}
use Rattle.json_lexemes.specs.Spelled.{Says}
use Rattle.json_merge_text.specs.Merged.{IsMergeOver}
use Rattle.json_merge_text.specs.declared.fault.MergeTextFault.{MergeTextFault}
use Rattle.json_merge_text.specs.declared.fault.MergeTextFault.TheVariants as merge
use Rattle.json_patch_limits.specs.declared.limits.Limits.{Limits}
use Rattle.json_text.specs.declared.fault.TextFault.{TextFault}
use Rattle.json_text.specs.declared.fault.TextFault.TheVariants as fault

-- a text isn't read within the limits: how deep it nests is looked at first
abbrev pub IsUnreadable : Limits → List ℕ → TextFault → Type 0
IsUnreadable l text fault.NotJson = (nesting text ≤ l.depth) × ((j : Json) → ¬ Says text j)
IsUnreadable l text fault.TooDeep = l.depth < nesting text
IsUnreadable l text (fault.Memory m) = ⊥

-- a text isn't kept: it isn't read, or no memory was found
abbrev pub IsUnkept : Limits → List ℕ → TextFault → Type 0
IsUnkept l text fault.NotJson = IsUnreadable l text fault.NotJson
IsUnkept l text fault.TooDeep = IsUnreadable l text fault.TooDeep
IsUnkept l text (fault.Memory m) = ⊤

-- the patch isn't read, or no memory was found: the text that is kept is always read
abbrev pub IsNoMergePatch : Limits → List ℕ → MergeTextFault → Type 0
IsNoMergePatch l patch (merge.Document f) = ⊥
IsNoMergePatch l patch (merge.Patch f) = IsUnreadable l patch f
IsNoMergePatch l patch (merge.Memory m) = ⊤

-- nothing is merged into the text
abbrev pub IsMergeLimitFault : Limits → List ℕ → List ℕ → MergeLimitFault → Type 0
IsMergeLimitFault l text patch TooLong = IsMergeOver l.copied text patch
IsMergeLimitFault l text patch (Merge f) = IsNoMergePatch l patch f

-- no patch leads to the other text
abbrev pub IsNoWayTo : Limits → List ℕ → DiffTextFault → Type 0
IsNoWayTo l to (diff.From f) = ⊥
IsNoWayTo l to (diff.To f) = IsUnreadable l to f
IsNoWayTo l to (diff.Memory m) = ⊤
