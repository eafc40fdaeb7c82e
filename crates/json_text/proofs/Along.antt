-- From token to token: where tokens lead, and what is put there.
use Rattle.std.proofs.Common.{◌≡◌, ap, ℕ, List, ◌∷◌, Some}
use Rattle.json.specs.Json.{Json}
use Rattle.jsonptr.specs.Text.{Pointer}
use Rattle.json_text.specs.Pointed.{child, if_some, put_child, put_at}

-- what is put where the pointer leads is put so in the child
pub put_step : (t : List ℕ) (Q : Pointer) (w v c : Json) → child t v ≡ Some c → put_at (t ∷ Q) w v ≡ put_child t (put_at Q w c) v
put_step t Q w v c e = ap (λ o. if_some o (λ d. put_child t (put_at Q w d) v) v) e
