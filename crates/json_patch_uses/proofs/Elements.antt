-- Pointers that name no element.
use Rattle.std.proofs.Common.{◌≡◌, ◌≤◌, ◌^◌, ℕ, List, [], ◌∷◌, ◌++◌, ◌∙◌, Some, None, subst, sym, arith}
use Rattle.std.proofs.lemmas.Grind.{common_steps}
use Rattle.jsonptr.specs.PlaceLaws.{next_is_no_place}
use Rattle.jsonptr.specs.Places.{next_token, place_of}
use Rattle.jsonptr.specs.Text.{Pointer}

last_one : (P Q : Pointer) (s t : List ℕ) → P ++ s ∷ [] ≡ Q ++ t ∷ [] → s ≡ t
last_one P Q s t h = grind (arith, common_steps)

pub next_names_none : (P front : Pointer) (last : List ℕ) → P ≡ front ++ last ∷ [] → last ≡ next_token
    → (other : Pointer) (end : List ℕ) (n : ℕ) → P ≡ other ++ end ∷ [] → place_of end ≡ Some n → 2 ^ 64 ≤ n
next_names_none P front last is next other end n whole named =
    let none : None ≡ Some n = sym next_is_no_place ∙ subst (λ t. place_of t ≡ Some n) (last_one other front end last (sym whole ∙ is) ∙ next) named in
    grind (arith, common_steps)
