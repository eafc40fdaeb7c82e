-- The room that blocks have.
use Rattle.std.proofs.Common.{◌≡◌, ◌<◌, ◌≤◌, ◌+◌, ◌-◌, ◌∷◌, ◌++◌, [], zero, suc, List, ℕ, Vec, length, slice_index_or, slice_set, ◌∙◌, Result, Ok, Err, OnOk, ap, subst, arith, inl, inr, length-append, vec_len, vec_capacity}
use Rattle.std.proofs.lemmas.Bool.{cases_lt, cases_order}
use Rattle.std.proofs.lemmas.List.Concat.{flat_map-append}
use Rattle.std.proofs.lemmas.List.Edits.{length-remove}
use Rattle.std.specs.List.{remove}
use Rattle.long_vec.specs.Blocks.{items_in, capacity_in, HasRoom}

-- what follows from what a success brings
pub on_ok : {R E P Q : Type 0} (r : Result R E) → OnOk r P → (P → Q) → OnOk r Q
on_ok (Ok x) p then = then p
on_ok (Err e) p then = p

module _ {T A : Type 0} where
  -- with another block in the place of block i
  pub capacity_with : (bs : List (Vec T A)) (i : ℕ) (b new : Vec T A) → i < length bs → b ≡ slice_index_or bs i b → capacity_in (slice_set bs i new) + vec_capacity b ≡ capacity_in bs + vec_capacity new
  capacity_with [] i b new within is = absurd (omega arith)
  capacity_with (v ∷ bs) zero b new within is = let same = ap (λ w. w.cap) is in omega arith
  capacity_with (v ∷ bs) (suc i) b new within is = let more = capacity_with bs i b new (omega arith) is in omega arith

  pub capacity_same : (bs : List (Vec T A)) (i : ℕ) (b new : Vec T A) → i < length bs → b ≡ slice_index_or bs i b → vec_capacity new ≡ vec_capacity b → capacity_in (slice_set bs i new) ≡ capacity_in bs
  capacity_same bs i b new within is same = let changed = capacity_with bs i b new within is in omega arith

  pub capacity_grows : (bs : List (Vec T A)) (i : ℕ) (b new : Vec T A) → i < length bs → b ≡ slice_index_or bs i b → vec_capacity b ≤ vec_capacity new → capacity_in bs ≤ capacity_in (slice_set bs i new)
  capacity_grows bs i b new within is more = let changed = capacity_with bs i b new within is in omega arith

  pub capacity_append : (bs cs : List (Vec T A)) → capacity_in (bs ++ cs) ≡ capacity_in bs + capacity_in cs
  capacity_append [] cs = omega arith
  capacity_append (b ∷ bs) cs = let more = capacity_append bs cs in omega arith

  -- no more are there than there is room for
  pub fits : (bs : List (Vec T A)) → length (items_in bs) ≤ capacity_in bs
  fits [] = omega arith
  fits (b ∷ bs) = let more = fits bs in omega (arith, b.ok.0, b.ok.1, length-append b.items (items_in bs))

  -- where an item was taken out, there is room
  pub room_left : (bs cs : List (Vec T A)) (n : ℕ) → n < length (items_in bs) → items_in cs ≡ remove (items_in bs) n → capacity_in cs ≡ capacity_in bs → length (items_in cs) < capacity_in cs
  room_left bs cs n within is same = let gone = length-remove (items_in bs) n within in let more = fits bs in omega (arith, ap length is, same)

  -- a block's room is room
  pub room_in : (bs : List (Vec T A)) (i : ℕ) → HasRoom bs i → length (items_in bs) < capacity_in bs
  room_in [] i has = let l = has.block in absurd (omega arith)
  room_in (b ∷ bs) zero has = let more = fits bs in let here = has.room b in omega (arith, b.ok.0, length-append b.items (items_in bs))
  room_in (b ∷ bs) (suc i) has =
      let l = has.block in
      let more = room_in bs i (record { block = omega arith; room = has.room }) in
      omega (arith, b.ok.0, b.ok.1, length-append b.items (items_in bs))

  -- with a block behind the last
  pub capacity_more : (bs cs : List (Vec T A)) (b : Vec T A) → cs ≡ bs ++ b ∷ [] → capacity_in bs ≤ capacity_in cs
  capacity_more bs cs b is = omega (arith, ap capacity_in is, capacity_append bs (b ∷ []))

  pub room_more : (bs cs : List (Vec T A)) (b : Vec T A) → cs ≡ bs ++ b ∷ [] → vec_len b < vec_capacity b → length (items_in cs) < capacity_in cs
  room_more bs cs b is less =
      let parts = ap (λ l. length (items_in l)) is ∙ ap length (flat_map-append (λ v. v.items) bs (b ∷ [])) ∙ length-append (items_in bs) (b.items ++ []) in
      omega (arith, ap capacity_in is, capacity_append bs (b ∷ []), fits bs, parts, length-append b.items [], b.ok.0)

  -- where there is room, some block has it
  pub some_room : (bs : List (Vec T A)) → length (items_in bs) < capacity_in bs → ((j : ℕ) → HasRoom bs j → ⊥) → ⊥
  some_room [] room none = omega arith
  some_room (b ∷ bs) room none =
      elim (cases_lt (vec_len b) (vec_capacity b)) [
        | inl less ↦ none 0 (record { block = omega arith; room = λ d. less })
        | inr full ↦ some_room bs (omega (arith, b.ok.0, length-append b.items (items_in bs))) (λ j h. none (suc j) (record { block = (let l = h.block in omega arith); room = h.room }))
      ]

  -- none has it that is nearer than d, nor either that is as near
  pub none_nearer : (bs : List (Vec T A)) (i d : ℕ) → ((j : ℕ) → j < i + d → i < j + d → HasRoom bs j → ⊥) → (HasRoom bs (i + d) → ⊥) → (d ≤ i → HasRoom bs (i - d) → ⊥)
      → (j : ℕ) → j < i + (d + 1) → i < j + (d + 1) → HasRoom bs j → ⊥
  none_nearer bs i d nearer behind before j below above has =
      elim (cases_order j (i + d)) [
        | inl same ↦ behind (subst (HasRoom bs) same has)
        | inr (inl less) ↦ elim (cases_lt i (j + d)) [
          | inl l ↦ nearer j less l has
          | inr l ↦ let at : j ≡ i - d = omega arith in before (omega arith) (subst (HasRoom bs) at has)
        ]
        | inr (inr more) ↦ omega arith
      ]
