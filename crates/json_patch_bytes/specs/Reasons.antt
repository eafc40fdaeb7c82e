-- Why a call makes nothing: what it means that its texts say no document or no patch, with what is told of that, that an
-- operation is refused, that one is over the limits, and that there is one too many. What can't come to be in a call is ⊥.
use Rattle.std.specs.Prelude.{ℕ}
use Rattle.json_patch.specs.LimitError.{LimitError}
use Rattle.json_patch.specs.PatchError.{PatchError}

pub record Reasons : Type 1 where
  pub no_document : ℕ → Type 0
  pub no_patch : ℕ → ℕ → Type 0
  pub refused : PatchError → Type 0
  pub over : LimitError → Type 0
  pub many : ℕ → Type 0
