-- Why a call on a text that is kept makes nothing. What can't come to be in a call is ⊥.
use Rattle.json_patch_bytes.specs.Reasons.{Reasons}

-- of a call that makes nothing where memory runs out, and then alone
abbrev pub of_memory : Reasons
of_memory = record { no_document = λ kind. ⊥; no_patch = λ operation kind. ⊥; refused = λ e. ⊥; over = λ e. ⊥; many = λ k. ⊥ }
