-- Where the items end of which a test holds, by the two that stand there.
use Rattle.std.proofs.Common.{◌≡◌, ◌≢◌, ◌<◌, ◌≤◌, ◌+◌, ◌-◌, ◌∷◌, ◌++◌, [], Bool, true, false, List, ℕ, Vec, length, slice_index_or, take, drop, suc, sym, ap, subst, ◌∙◌, arith, inl, inr, length-append}
use Rattle.std.specs.Fn.{AlwaysReturns, Called}
use Rattle.std.specs.List.Sorted.{IsPartitionedBy, IsPartitionPoint}
use Rattle.std.proofs.lemmas.List.{get_or_default}
use Rattle.std.proofs.lemmas.Bool.{cases_lt, false_from_ne_true, false≢true}
use denote.Param.Members.{Mut}
use Rattle.long_vec.specs.Blocks.{items_in}
use Rattle.long_vec.proofs.Around.{found_around}
use Rattle.long_vec.proofs.Blocks.{items_around}

-- what a call answers, and that those behind it do
pub answers_next : {F X R : Type 0} (g : Mut F X R) (P : X → R → Type 0) (f : F) (a : X) (r : R) (f' : F) → Called g f a r f' → AlwaysReturns g P f → P a r × AlwaysReturns g P f'
answers_next g P f a r f' c h = ((h.at (a ∷ []) r f' c).0, record { at = λ xs. (h.at (a ∷ xs) r f' c).1 })

module _ {X : Type 0} (f : X → Bool) where
  abbrev pub IsPoint : List X → ℕ → Type 0
  IsPoint xs m = IsPartitionPoint (λ y. f y ≡ true) (λ y. f y ≡ false) xs m

  pub point_at : (xs : List X) (m : ℕ) → IsPartitionedBy f xs → m ≤ length xs → ((k : ℕ) (d : X) → k + 1 ≡ m → f (slice_index_or xs k d) ≡ true) → ((d : X) → m < length xs → f (slice_index_or xs m d) ≡ false) → IsPoint xs m
  point_at xs m parts bound before here = (
    λ k d l u. parts k (m - 1) d (omega arith) (omega arith) (before (m - 1) d (omega arith)),
    λ k d l u. false_from_ne_true _ (λ holds. false≢true (sym (here d (omega arith)) ∙ parts m k d l u holds)),
  )

  module _ (p xs q : List X) (parts : IsPartitionedBy f (p ++ (xs ++ q))) where
    long : length (p ++ (xs ++ q)) ≡ length p + (length xs + length q)
    long = length-append p (xs ++ q) ∙ ap (λ n. length p + n) (length-append xs q)

    pub inner_parts : IsPartitionedBy f xs
    inner_parts i j d le l holds =
        ap f (sym (found_around p xs q i d (omega arith)))
        ∙ parts (length p + i) (length p + j) d (omega arith) (omega (arith, long)) (ap f (found_around p xs q j d l) ∙ holds)

    pub inner_point : (k : ℕ) → k ≤ length xs → ((d : X) → f (slice_index_or xs (length xs - 1) d) ≡ false) → 0 < length xs → IsPoint xs k → ((j : ℕ) (d : X) → j + 1 ≡ length p → f (slice_index_or (p ++ (xs ++ q)) j d) ≡ true)
        → IsPoint (p ++ (xs ++ q)) (length p + k)
    inner_point k bound last some point before = point_at (p ++ (xs ++ q)) (length p + k) parts (omega (arith, long)) below here
      where
        below : (j : ℕ) (d : X) → j + 1 ≡ length p + k → f (slice_index_or (p ++ (xs ++ q)) j d) ≡ true
        below j d e = elim (cases_lt j (length p)) [
          | inl l ↦ before j d (omega arith)
          | inr l ↦ let at : j ≡ length p + (k - 1) = omega arith in
              ap (λ n. f (slice_index_or (p ++ (xs ++ q)) n d)) at ∙ ap f (found_around p xs q (k - 1) d (omega arith)) ∙ point.0 (k - 1) d (omega arith) (omega arith)
        ]

        inside : (d : X) → k < length xs
        inside d = elim (cases_lt k (length xs)) [
          | inl l ↦ l
          | inr l ↦ absurd (false≢true (sym (last d) ∙ point.0 (length xs - 1) d (omega arith) (omega arith)))
        ]

        here : (d : X) → length p + k < length (p ++ (xs ++ q)) → f (slice_index_or (p ++ (xs ++ q)) (length p + k) d) ≡ false
        here d l = ap f (found_around p xs q k d (inside d)) ∙ point.1 k d (omega arith) (inside d)

-- ---- in block i

module _ {T A : Type 0} (f : T → Bool) (bs : List (Vec T A)) (i : ℕ) (b : Vec T A) (block : i < length bs) (is : b ≡ slice_index_or bs i b) where
  abbrev front : List T
  front = items_in (take i bs)

  abbrev rest : List T
  rest = items_in (drop (suc i) bs)

  whole : items_in bs ≡ front ++ (b.items ++ rest)
  whole = items_around bs i b block is

  pub block_parts : IsPartitionedBy f (items_in bs) → IsPartitionedBy f b.items
  block_parts parts = inner_parts f front b.items rest (subst (IsPartitionedBy f) whole parts)

  pub block_point : (k : ℕ) → IsPartitionedBy f (items_in bs) → k ≤ length b.items → ((d : T) → f (slice_index_or b.items (length b.items - 1) d) ≡ false) → 0 < length b.items → IsPoint f b.items k
      → ((j : ℕ) (d : T) → j + 1 ≡ length front → f (slice_index_or (items_in bs) j d) ≡ true) → IsPoint f (items_in bs) (length front + k)
  block_point k parts bound last some point before =
      subst (λ l. IsPoint f l (length front + k)) (sym whole)
      (inner_point f front b.items rest (subst (IsPartitionedBy f) whole parts) k bound last some point (λ j d e. ap (λ l. f (slice_index_or l j d)) (sym whole) ∙ before j d e))

  pub found_in_block : (k : ℕ) (d : T) → k < length b.items → slice_index_or (items_in bs) (length front + k) d ≡ slice_index_or b.items k d
  found_in_block k d l = ap (λ l. slice_index_or l (length front + k) d) whole ∙ found_around front b.items rest k d l

  pub count_with : length front + length b.items ≤ length (items_in bs)
  count_with = omega (arith, ap length whole, length-append front (b.items ++ rest), length-append b.items rest)

-- ---- at the end of a block

module _ {X : Type 0} (f : X → Bool) (xs : List X) (n : ℕ) (x : X) (r : Bool) (is : x ≡ slice_index_or xs (n - 1) x) (all : n ≡ length xs) (some : n ≢ 0) (said : r ≡ f x) where
  pub last_is : (d : X) → f (slice_index_or xs (length xs - 1) d) ≡ r
  last_is d =
      let end : length xs - 1 ≡ n - 1 = omega arith in
      sym (said ∙ ap f (is ∙ ap (λ k. slice_index_or xs k x) (sym end) ∙ get_or_default xs (length xs - 1) x d (omega arith)))
