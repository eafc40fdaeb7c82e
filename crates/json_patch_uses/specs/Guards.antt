-- What a stranger's text makes of a document that is guarded, and why it makes nothing of it.
use Rattle.std.specs.Prelude.{◌≤◌, ◌<◌, ℕ, List}
use Rattle.serde_json.specs.Data.{Data}
use Rattle.json_patch.specs.LimitFault.{LimitFault}
use Rattle.json_patch.specs.LimitFault.TheVariants.{Over as limit_over, Patch}
use Rattle.json_patch.specs.Limits.{Limits}
use Rattle.json_patch.specs.Operation.{Operation}
use Rattle.json_patch.specs.OverLimits.{IsNeverOver, IsOverAt, size}
use Rattle.json_patch.specs.Run.{Accepts}
use Rattle.json_patch.specs.Texts.{SaysPatch, of_patch}
use Rattle.json_patch_uses.specs.Updates.{NoUpdate, Updates}
use Rattle.json_patch_uses.specs.declared.guarded.GuardFault.{GuardFault}
use Rattle.json_patch_uses.specs.declared.guarded.GuardFault.TheVariants.{Over, TooLarge, NotApplied}

-- the limits of a change: no more is copied than the document may be large
abbrev pub limits_of : ℕ → ℕ → Limits
limits_of levels most = record { depth = levels; copied = most }

-- the text says a patch that is accepted on d within the limits and leaves e, which isn't too large
abbrev pub UpdatesWithin : ℕ → ℕ → Data → List ℕ → Data → Type 0
UpdatesWithin levels most d text e = (ops : List Operation) × SaysPatch text ops × IsNeverOver (limits_of levels most) d ops × Accepts d ops e × (size e ≤ most)

-- why nothing is changed
abbrev pub IsFaultWithin : ℕ → ℕ → Data → List ℕ → GuardFault → Type 0
IsFaultWithin levels most d text (Over e) = (ops : List Operation) × SaysPatch text ops × IsOverAt (limits_of levels most) d ops e.operation e.kind
IsFaultWithin levels most d text TooLarge = (e : Data) × Updates d text e × (most < size e)
IsFaultWithin levels most d text (NotApplied fault) = NoUpdate d text fault

abbrev pub of_limited : LimitFault → GuardFault
of_limited (limit_over e) = Over e
of_limited (Patch fault) = NotApplied (of_patch fault)
