-- What stands behind a handle.
use Rattle.std.specs.Prelude.{Option, option_map}
use Rattle.json_kept_text.specs.Kept.{State}
use Rattle.json_patch_c.specs.declared.given.CallLimits.{CallLimits}
use Rattle.json_patch_c.specs.declared.kept.Kept.{Kept}

-- the text that is kept, if one is open, with its limits and its last change, if that was recorded
abbrev pub kept_in : Option Kept → Option State
kept_in held = option_map (λ k. k.text) held

-- its limits
abbrev pub limits_in : Option Kept → Option CallLimits
limits_in held = option_map (λ k. record { texts = k.text.limits; operations = k.operations }) held
