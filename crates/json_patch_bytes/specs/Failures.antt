-- When a call makes nothing, and why. Of want of memory nothing is said.
use Rattle.json_patch_bytes.specs.Reasons.{Reasons}
use Rattle.json_patch_bytes.specs.declared.failure.Failure.{Failure}
use Rattle.json_patch_bytes.specs.declared.failure.Failure.TheVariants.{NoDocument, NoPatch, Refused, Over, TooMany, Memory}

-- it is one of the reasons
abbrev pub IsFailure : Reasons → Failure → Type 0
IsFailure R (NoDocument kind) = R.no_document kind
IsFailure R (NoPatch operation kind) = R.no_patch operation kind
IsFailure R (Refused e) = R.refused e
IsFailure R (Over e) = R.over e
IsFailure R (TooMany k) = R.many k
IsFailure R Memory = Unit {0}
