-- What a call writes of what takes back a change.
use Rattle.std.specs.Prelude.{◌≡◌, ℕ, List, [], ◌∷◌, Option, Some, None, IfSome}
use Rattle.json_kept_text.specs.Kept.{Change, State}
use Rattle.json_patch_text.specs.Patched.{AcceptsPatch}

-- the inverse that was recorded, and else []
abbrev pub inverse_in : Option Change → List ℕ
inverse_in None = 91 ∷ 93 ∷ []
inverse_in (Some c) = c.inverse

-- s is that text, and leads from the text that is kept to the one before the change
abbrev pub IsWayBack : State → List ℕ → Type 0
IsWayBack k s = (s ≡ inverse_in k.last) × IfSome k.last (λ c. AcceptsPatch k.text s c.before)
