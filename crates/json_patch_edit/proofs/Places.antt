-- Locations under and beside another.
use Rattle.json_patch_edit.proofs.Common.{◌≡◌, ℕ, ◌<◌, ◌≤◌, List, [], ◌∷◌, ◌++◌, ◌⊎◌, inl, inr, ⊎_elim, refl, ap, arith}
use Rattle.json_patch_edit.proofs.Common.{rules, append_cancel_left, Segment, key, place, IsBeside, cases_lt}
use Rattle.json_patch_document.proofs.Members.{step_cases}

abbrev pub IsUnder : List Segment → List Segment → Type 0
IsUnder L X = (R : List Segment) × (X ≡ L ++ R)

abbrev pub IsApart : List Segment → List Segment → Type 0
IsApart L X = (R : List Segment) → X ≡ L ++ R → ⊥

pub under_cases : (L X : List Segment) → IsUnder L X ⊎ IsApart L X
under_cases (s ∷ L) (r ∷ X) = search (rules, step_cases r s, under_cases L X, step_cases)
under_cases L X = search rules

-- X is under what the step s at L covers or moves
abbrev pub IsMoved : List Segment → Segment → List Segment → Type 0
IsMoved L (key k) X = (R : List Segment) × (X ≡ L ++ key k ∷ R)
IsMoved L (place i) X = (j : ℕ) × (R : List Segment) × (i ≤ j) × (X ≡ L ++ place j ∷ R)

next_cases : (s r : Segment) (R : List Segment) → IsMoved [] s (r ∷ R) ⊎ IsBeside [] s (r ∷ R)
next_cases (key k) r R = ⊎_elim (λ e. inl (R, ap (λ x. x ∷ R) e)) (λ out. inr (λ Q h. out cc)) (step_cases r (key k))
next_cases (place i) (key k) R = inr (λ j Q le h. cc)
next_cases (place i) (place j) R =
    ⊎_elim (λ (lt : j < i). inr (λ m Q le h. (let e : j ≡ m = cc in omega arith))) (λ (le : i ≤ j). inl (j, R, le, refl)) (cases_lt j i)

split_cases : (s : Segment) (Y : List Segment) → IsMoved [] s Y ⊎ IsBeside [] s Y
split_cases s [] = inr (search rules)
split_cases s (r ∷ R) = next_cases s r R

pub beside_inside : (L : List Segment) (s : Segment) (Y : List Segment) → IsBeside L s (L ++ Y) → IsBeside [] s Y
beside_inside L s Y b = search rules

moved_cases_at : (L : List Segment) (s : Segment) (Y : List Segment) → IsMoved L s (L ++ Y) ⊎ IsBeside L s (L ++ Y)
moved_cases_at L s Y = ⊎_elim (λ m. inl (search rules)) (λ b. inr (search (rules, append_cancel_left))) (split_cases s Y)

pub moved_cases : (L : List Segment) (s : Segment) (X : List Segment) → IsMoved L s X ⊎ IsBeside L s X
moved_cases L s X = search (rules, moved_cases_at L s, under_cases L X, moved_cases_at, under_cases)
