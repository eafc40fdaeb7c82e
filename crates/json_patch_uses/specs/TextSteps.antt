-- For private clauses: a step of an editor of a text.
use Rattle.std.specs.Prelude.{◌≡◌, ◌≤◌, ℕ, List, [], ◌∷◌, Result, Ok, Err, Bool, true, false}
use Rattle.json.specs.Json.{max_depth}
use Rattle.json_lexemes.specs.Skipped.{nesting}
use Rattle.json_patch_limits.specs.declared.limits.Limits.{Limits}
use Rattle.json_patch_text.specs.Patched.{AcceptsPatch}
use Rattle.json_patch_text.specs.WayBack.{IsRecordLimitFault}
use Rattle.json_patch_text.specs.declared.fault.TextLimitFault.{TextLimitFault}

-- nothing has changed
abbrev pub AreUntouched : List ℕ → List (List ℕ) → List (List ℕ) → List ℕ → List (List ℕ) → List (List ℕ) → Type 0
AreUntouched t from to u left grown = (u ≡ t) × (left ≡ from) × (grown ≡ to)

-- p was taken and run, and q leads back
pub record IsTaken (t : List ℕ) (from to : List (List ℕ)) (u : List ℕ) (left grown : List (List ℕ)) : Type 0 where
  pub p : List ℕ
  pub q : List ℕ
  pub from_is : from ≡ p ∷ left
  pub grown_is : grown ≡ q ∷ to
  pub leads : AcceptsPatch t p u
  pub leads_back : AcceptsPatch u q t
  pub readable : nesting q ≤ max_depth

-- a step back or on; where it fails there was a first patch, and for this it isn't run
abbrev pub Steps : Limits → Result Bool TextLimitFault → List ℕ → List (List ℕ) → List (List ℕ) → List ℕ → List (List ℕ) → List (List ℕ) → Type 0
Steps l (Ok true) t from to u left grown = IsTaken t from to u left grown
Steps l (Ok false) t from to u left grown = (from ≡ []) × AreUntouched t from to u left grown
Steps l (Err f) t from to u left grown = AreUntouched t from to u left grown × ((p : List ℕ) × (ps : List (List ℕ)) × (from ≡ p ∷ ps) × IsRecordLimitFault l t p f)
