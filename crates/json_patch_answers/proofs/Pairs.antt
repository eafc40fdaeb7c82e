-- The array of two, over the values.
use Rattle.std.proofs.Common.{◌≡◌, List, [], ◌∷◌, None, length, refl}
use Rattle.serde_json.specs.Data.{array}
use Rattle.serde_json.specs.View.{items_view}
use Rattle.serde_json.specs.declared.value.Value.{Value}
use Rattle.json_patch_answers.specs.Input.{pair_of}

pub not_pair : (xs : List Value) → (length xs ≡ 2 → ⊥) → pair_of (array (items_view xs)) ≡ None
not_pair [] n = refl
not_pair (x ∷ []) n = refl
not_pair (x ∷ y ∷ []) n = absurd (n refl)
not_pair (x ∷ y ∷ z ∷ xs) n = refl
