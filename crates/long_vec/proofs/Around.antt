-- What is done to the middle one of three lists is done to the list that they make.
use Rattle.std.proofs.Common.{◌≡◌, ◌<◌, ◌≤◌, ◌+◌, ◌-◌, ◌++◌, List, ℕ, length, slice_index_or, slice_set, refl, ap, ◌∙◌, arith}
use Rattle.std.specs.List.{remove, insert}
use Rattle.std.proofs.lemmas.List.{get_or-append-add, get_or_append_left, set-append_left, set-append_right}
use Rattle.std.proofs.lemmas.List.Edits.{insert-append_left, insert-append_right, remove-append_left, remove-append_right}

module _ {X : Type 0} (p xs q : List X) (k : ℕ) where
  at : length p + k - length p ≡ k
  at = omega arith

  pub found_around : (d : X) → k < length xs → slice_index_or (p ++ (xs ++ q)) (length p + k) d ≡ slice_index_or xs k d
  found_around d l = get_or-append-add p (xs ++ q) k d ∙ get_or_append_left xs q d k l

  pub set_around : (y : X) → k < length xs → slice_set (p ++ (xs ++ q)) (length p + k) y ≡ p ++ (slice_set xs k y ++ q)
  set_around y l =
      set-append_right p (xs ++ q) (length p) (length p + k) y refl (omega arith)
      ∙ ap (λ n. p ++ slice_set (xs ++ q) n y) at ∙ ap (λ l. p ++ l) (set-append_left xs q k y l)

  pub removed_around : k < length xs → remove (p ++ (xs ++ q)) (length p + k) ≡ p ++ (remove xs k ++ q)
  removed_around l =
      remove-append_right p (xs ++ q) (length p) (length p + k) refl (omega arith)
      ∙ ap (λ n. p ++ remove (xs ++ q) n) at ∙ ap (λ l. p ++ l) (remove-append_left xs q k l)

  pub inserted_around : (y : X) → k ≤ length xs → insert (p ++ (xs ++ q)) (length p + k) y ≡ p ++ (insert xs k y ++ q)
  inserted_around y l =
      insert-append_right p (xs ++ q) (length p) (length p + k) y refl (omega arith)
      ∙ ap (λ n. p ++ insert (xs ++ q) n y) at ∙ ap (λ l. p ++ l) (insert-append_left xs q k y l)
