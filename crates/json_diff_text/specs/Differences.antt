-- The patch between two texts (RFC 6902), as text.
use Rattle.std.specs.Prelude.{◌≡◌, ◌↔◌, ◌<◌, ◌≤◌, ◌+◌, ◌*◌, Bool, false, ℕ, List, [], length, max, ⊤}
use Rattle.json.specs.Json.{Json, max_depth}
use Rattle.json.specs.Tree.{depth}
use Rattle.json_lexemes.specs.Skipped.{nesting}
use Rattle.json_lexemes.specs.Spelled.{Says}
use Rattle.serde_json.specs.Data as doc
use Rattle.serde_json.specs.Data.{Data}
use Rattle.json_patch_diff.specs.Guarded.{AcceptsBeside, IsGuarded}
use Rattle.json_patch_diff.specs.Size.{values}
use Rattle.json_patch_laws.specs.Inverse.{ArePlain}
use Rattle.json_patch_laws.specs.Run.{IsAccepted}
use Rattle.json_patch_limits.specs.OverLimits.{AreShallow, NeverOver}
use Rattle.json_patch_limits.specs.declared.limits.Limits.{Limits}
use Rattle.json_patch_moves.specs.Moving.{AreMoving}
use Rattle.json_patch_operation.specs.Operation.{Operation, AreWhole}
use Rattle.json_reading.specs.Reading.{Reading}
use Rattle.json_reading.specs.Same.{SameTree}
use Rattle.json_reading.specs.Trees.{data_of}
use Rattle.json_patch_text.specs.Made.{IsNoText}
use Rattle.json_patch_text.specs.Operations.{TreeOperation, SaysOperations, all_under}
use Rattle.json_patch_text.specs.Patched.{AcceptsPatch}
use Rattle.json_patch_text.specs.Run.{AcceptsTree}
use Rattle.json_patch_text.specs.Shallow.{AllPutWithin, IsNeverTooDeep}
use Rattle.json_diff_text.specs.declared.fault.DiffTextFault.{DiffTextFault}
use Rattle.json_diff_text.specs.declared.fault.DiffTextFault.TheVariants.{From, To, Memory}
use Rattle.json_text.specs.declared.fault.TextFault.{TextFault}
use Rattle.json_text.specs.declared.fault.TextFault.TheVariants as text

-- how deep the second text may nest, so that the patch's text nests no deeper than 128 levels
abbrev pub most_levels : ℕ
most_levels = 126

-- both texts say the same, numbers compared exactly
abbrev pub SaySame : List ℕ → List ℕ → Type 0
SaySame a b = (i : Json) × (j : Json) × Says a i × Says b j × SameTree i j

-- under each reading the operations are plain on the document of i
abbrev pub ArePlainOn : Json → List TreeOperation → Type 0
ArePlainOn i ops = (r : Reading) → ArePlain (data_of r i) (all_under r ops)

-- the patch's text says such operations on what the text says
abbrev pub IsPlainPatch : List ℕ → List ℕ → Type 0
IsPlainPatch text patch = (i : Json) × (ops : List TreeOperation) × Says text i × SaysOperations patch ops × ArePlainOn i ops

-- under each reading each operation is an `add`, `remove`, `replace` or `move`
abbrev pub AreMovingTrees : List TreeOperation → Type 0
AreMovingTrees ops = (r : Reading) → AreMoving (all_under r ops)

-- the patch's text says such operations
abbrev pub IsMovingPatch : List ℕ → Type 0
IsMovingPatch patch = (ops : List TreeOperation) × SaysOperations patch ops × AreMovingTrees ops

-- under each reading they are at most as many as both documents have values
abbrev pub AreFew : Json → Json → List TreeOperation → Type 0
AreFew i j ops = (r : Reading) → length ops ≤ values (data_of r i) + values (data_of r j)

-- the patch's text says so few operations
abbrev pub IsFewBetween : List ℕ → List ℕ → List ℕ → Type 0
IsFewBetween from to patch = (i j : Json) × (ops : List TreeOperation) × Says from i × Says to j × SaysOperations patch ops × AreFew i j ops

-- under each reading the operations are the changes, plain on the document of i, each that removes or replaces something directly
-- after a test of what stands there
abbrev pub AreGuardedOn : Json → List TreeOperation → List TreeOperation → Type 0
AreGuardedOn i changes ops = (r : Reading) → ArePlain (data_of r i) (all_under r changes) × IsGuarded (data_of r i) (all_under r changes) (all_under r ops)

-- the patch's text says such operations on what the text says
abbrev pub IsGuardedPatch : List ℕ → List ℕ → Type 0
IsGuardedPatch text patch = (i : Json) × (changes ops : List TreeOperation) × Says text i × SaysOperations patch ops × AreGuardedOn i changes ops

-- the changes lead from what the text says to what the new one says, and under each reading the document of i has the same as the
-- text's at each place that one removes or replaces
abbrev pub AcceptsTextBeside : Json → List ℕ → List TreeOperation → List ℕ → Type 0
AcceptsTextBeside i text changes new = (x e : Json) × Says text x × Says new e × ((r : Reading) → AcceptsBeside (data_of r i) (data_of r x) (all_under r changes) (data_of r e))

-- the patch's text says such operations on what the first text says, and other texts accept it just so
abbrev pub IsRefusedElsewhere : List ℕ → List ℕ → Type 0
IsRefusedElsewhere from patch = (i : Json) × (changes ops : List TreeOperation) × Says from i × SaysOperations patch ops × AreGuardedOn i changes ops × ((text new : List ℕ) → AcceptsPatch text patch new ↔ AcceptsTextBeside i text changes new)

-- with the tests they are at most twice as many
abbrev pub AreFewGuarded : Json → Json → List TreeOperation → Type 0
AreFewGuarded i j ops = (r : Reading) → length ops ≤ 2 * (values (data_of r i) + values (data_of r j))

abbrev pub IsFewGuarded : List ℕ → List ℕ → List ℕ → Type 0
IsFewGuarded from to patch = (i j : Json) × (ops : List TreeOperation) × Says from i × Says to j × SaysOperations patch ops × AreFewGuarded i j ops

-- why a text of whose values a patch has some isn't read, but for want of memory
abbrev pub IsNoGoal : List ℕ → TextFault → Type 0
IsNoGoal to text.NotJson = (j : Json) → ¬ Says to j
IsNoGoal to text.TooDeep = most_levels < nesting to
IsNoGoal to (text.Memory m) = ⊥

-- why there is no patch
abbrev pub IsDiffTextFault : List ℕ → List ℕ → DiffTextFault → Type 0
IsDiffTextFault from to (From f) = IsNoText from f
IsDiffTextFault from to (To f) = IsNoGoal to f
IsDiffTextFault from to (Memory m) = ⊤

-- and no guarded one
abbrev pub IsGuardedFault : List ℕ → List ℕ → DiffTextFault → Type 0
IsGuardedFault from to (From f) = IsNoGoal from f
IsGuardedFault from to (To f) = IsNoGoal to f
IsGuardedFault from to (Memory m) = ⊤

-- ---- for private clauses

-- the text says the operations, and can be read
abbrev pub IsTextOf : List ℕ → List TreeOperation → Type 0
IsTextOf s ops = SaysOperations s ops × (nesting s ≤ max_depth)

-- the operations lead from the one document to the other, with moves or as `diff` makes them
pub record IsBetween (moves : Bool) (d e : Data) (ops : List Operation) : Type 0 where
  pub whole : AreWhole ops
  pub leads : IsAccepted d ops e
  pub moving : AreMoving ops
  pub few : length ops ≤ values d + values e
  pub shallow : AreShallow (doc.depth e) ops
  pub plain : moves ≡ false → ArePlain d ops
  pub never : moves ≡ false → (recorded : Bool) (l : Limits) → doc.depth e ≤ l.depth → NeverOver recorded l d ops

-- the operations lead from the one tree to the other
pub record AreTreeEdits (moves : Bool) (i j : Json) (ops : List TreeOperation) : Type 0 where
  pub leads : AcceptsTree i ops j
  pub moving : AreMovingTrees ops
  pub plain : moves ≡ false → ArePlainOn i ops
  pub nothing : (ops ≡ []) ↔ SameTree i j
  pub few : AreFew i j ops
  pub shallow : moves ≡ false → AllPutWithin (depth j) ops

-- and the text says them
pub record IsTreePatch (moves : Bool) (i j : Json) (s : List ℕ) : Type 0 where
  pub ops : List TreeOperation
  pub edits : AreTreeEdits moves i j ops
  pub says : SaysOperations s ops
  pub readable : nesting s ≤ max_depth

-- or it says such ones with their tests
pub record IsGuardedTreePatch (i j : Json) (s : List ℕ) : Type 0 where
  pub changes : List TreeOperation
  pub ops : List TreeOperation
  pub edits : AreTreeEdits false i j changes
  pub guarded : AreGuardedOn i changes ops
  pub shallow : AllPutWithin (depth j) ops
  pub says : SaysOperations s ops
  pub readable : nesting s ≤ max_depth

-- and from what the one text says to what the other says
pub record IsTextPatch (moves : Bool) (from to s : List ℕ) : Type 0 where
  pub i : Json
  pub j : Json
  pub first : Says from i
  pub second : Says to j
  pub patch : IsTreePatch moves i j s
  pub never : IsNeverTooDeep (max (nesting from) (nesting to)) from s
