-- Which operation of a list is the first that is over its limits, in a run that is recorded or isn't, computed.
use Rattle.std.specs.Prelude.{◌≡◌, ◌≤◌, ◌<◌, ◌+◌, ℕ, zero, suc, List, [], ◌∷◌, Option, Some, None, Result, Ok, Err, nat_lt, if◌then◌else◌, Bool}
use Rattle.serde_json.specs.Data.{Data}
use Rattle.json_patch_operation.specs.Operation.{Operation}
use Rattle.json_patch_edit.specs.RunComputed.{after_step}
use Rattle.json_patch_limits.specs.OverLimits.{copied_by, left_of, reach_of}
use Rattle.json_patch_operation.specs.declared.error.PatchErrorKind.{PatchErrorKind}
use Rattle.json_patch_limits.specs.declared.limits.Limits.{Limits}
use Rattle.json_patch_limits.specs.declared.limits.LimitKind.{LimitKind}
use Rattle.json_patch_limits.specs.declared.limits.LimitKind.TheVariants.{TooDeep, TooMuch}

-- how op is over the limits, if it is
abbrev pub over : Bool → Limits → Data → Operation → Option LimitKind
over recorded l d op = if nat_lt l.depth (reach_of d op) then Some TooDeep else (if nat_lt l.copied (copied_by recorded d op) then Some TooMuch else None)

-- which one is over, and how
pub data FirstOver : Type 0 where
  over_at : ℕ → LimitKind → FirstOver

abbrev pub over_later : Option FirstOver → Option FirstOver
over_later None = None
over_later (Some (over_at k kind)) = Some (over_at (suc k) kind)

abbrev pub then_over : Result Data PatchErrorKind → (Data → Option FirstOver) → Option FirstOver
then_over (Ok m) rest = over_later (rest m)
then_over (Err kind) rest = None

abbrev pub or_over : Option LimitKind → Option FirstOver → Option FirstOver
or_over (Some kind) rest = Some (over_at zero kind)
or_over None rest = rest

abbrev pub first_over : Bool → Limits → Data → List Operation → Option FirstOver
first_over recorded l d [] = None
first_over recorded l d (op ∷ ops) = or_over (over recorded l d op) (then_over (after_step d op) (λ m. first_over recorded (left_of recorded l d op) m ops))

-- which one is over, and how, if there are limits
abbrev pub over_under : Bool → Option Limits → Data → List Operation → Option FirstOver
over_under recorded None d ops = None
over_under recorded (Some l) d ops = first_over recorded l d ops

-- n less s, or None where s is more
abbrev pub Spares : Option ℕ → ℕ → ℕ → Type 0
Spares (Some m) n s = m + s ≡ n
Spares None n s = n < s

-- what comes of an operation that reaches so deep and copies so much
abbrev pub Charges : Limits → ℕ → ℕ → Result Limits LimitKind → Type 0
Charges l reach copied (Ok m) = (reach ≤ l.depth) × (m.depth ≡ l.depth) × (m.copied + copied ≡ l.copied)
Charges l reach copied (Err TooDeep) = l.depth < reach
Charges l reach copied (Err TooMuch) = (reach ≤ l.depth) × (l.copied < copied)

-- with its number counted on from n
abbrev pub later_by : ℕ → Option FirstOver → Option FirstOver
later_by n None = None
later_by n (Some (over_at k kind)) = Some (over_at (n + k) kind)
