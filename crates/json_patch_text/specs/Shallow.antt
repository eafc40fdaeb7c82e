-- Patches that leave no deep text.
use Rattle.std.specs.Prelude.{◌≡◌, ◌≤◌, ◌+◌, ℕ, List, [], ◌∷◌, length, take, ⊤}
use Rattle.json.specs.Tree.{depth}
use Rattle.json_lexemes.specs.Skipped.{nesting}
use Rattle.json_patch_limits.specs.declared.limits.LimitError.{LimitError}
use Rattle.json_patch_limits.specs.declared.limits.LimitKind.TheVariants.{TooMuch}
use Rattle.json_patch_limits.specs.declared.limits.Limits.{Limits}
use Rattle.json_patch_text.specs.Made.{AreMadeIn}
use Rattle.json_patch_text.specs.Operations.{TreeOperation, add, remove, replace, move, copy, test}
use Rattle.json_patch_text.specs.Patched.{HasTexts, IsPatchTextFault}
use Rattle.json_patch_text.specs.Within.{NamesFirstOver}
use Rattle.json_patch_text.specs.declared.fault.PatchTextFault.TheVariants.{TooDeep}
use Rattle.json_patch_text.specs.declared.operation.TextOperation.{TextOperation}

-- the operation moves and copies nothing, and the value that it puts reaches at most so many levels
abbrev pub PutsWithin : ℕ → TreeOperation → Type 0
PutsWithin levels (add P w) = length P + depth w ≤ levels
PutsWithin levels (remove P) = ⊤
PutsWithin levels (replace P w) = length P + depth w ≤ levels
PutsWithin levels (move F P) = ⊥
PutsWithin levels (copy F P) = ⊥
PutsWithin levels (test P w) = ⊤

abbrev pub AllPutWithin : ℕ → List TreeOperation → Type 0
AllPutWithin levels [] = ⊤
AllPutWithin levels (op ∷ ops) = PutsWithin levels op × AllPutWithin levels ops

-- no text on the way, from the first to the last, nests deeper
abbrev pub KeepsWithin : ℕ → List ℕ → List ℕ → Type 0
KeepsWithin levels text patch = (os : List TextOperation) (k : ℕ) (left : List ℕ) → HasTexts patch os → AreMadeIn text (take k os) left → nesting left ≤ levels

-- no text on the way is too deep to be read, and none is over limits of so many levels but by its size
abbrev pub IsNeverTooDeep : ℕ → List ℕ → List ℕ → Type 0
IsNeverTooDeep levels text patch = ((k : ℕ) → IsPatchTextFault text patch (TooDeep k) → ⊥) × ((l : Limits) (e : LimitError) → levels ≤ l.depth → NamesFirstOver l text patch e → e.kind ≡ TooMuch)
