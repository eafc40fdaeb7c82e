-- A block in two, a block more, and an item behind the last.
use Rattle.std.proofs.Common.{◌≡◌, ◌<◌, ◌≤◌, ◌+◌, ◌∷◌, ◌++◌, [], Bool, true, false, suc, if◌then◌else◌, List, ℕ, Vec, length, slice_index_or, slice_set, take, drop, sym, ap, subst, ◌∙◌, arith, vec_len, vec_capacity}
use Rattle.std.specs.List.{insert}
use Rattle.std.proofs.lemmas.List.{append_assoc, append-nil, drop-set-lt, drop_all, get_or-set_same, length-set, take-append-drop, take_more_set}
use Rattle.std.proofs.lemmas.List.Concat.{flat_map-append}
use Rattle.std.proofs.lemmas.List.Edits.{get_or-insert_below, length-insert}
use Rattle.long_vec.specs.Blocks.{items_in, capacity_in, HasRoom}
use Rattle.long_vec.proofs.Blocks.{items_around, items_with}
use Rattle.long_vec.proofs.Room.{capacity_append, capacity_same}

module _ {T A : Type 0} (bs : List (Vec T A)) (i : ℕ) (b : Vec T A) (block : i < length bs) (is : b ≡ slice_index_or bs i b) where
  -- a block that has the same items
  pub same_items : (new : Vec T A) → new.items ≡ b.items → items_in (slice_set bs i new) ≡ items_in bs
  same_items new e = items_with bs i new block ∙ ap (λ l. items_in (take i bs) ++ (l ++ items_in (drop (suc i) bs))) e ∙ sym (items_around bs i b block is)

  pub room_here : (new : Vec T A) → vec_len new < vec_capacity new → HasRoom (slice_set bs i new) i
  room_here new less = record {
    block = omega (arith, length-set bs i new);
    room = λ d. subst (λ v. vec_len v < vec_capacity v) (sym (get_or-set_same bs i new d block)) less;
  }

  -- an item, or none, behind the last of the last block
  pub pushed : (new : Vec T A) (x : T) (done : Bool) → i + 1 ≡ length bs → new.items ≡ (if done then b.items ++ x ∷ [] else b.items) → items_in (slice_set bs i new) ≡ (if done then items_in bs ++ x ∷ [] else items_in bs)
  pushed new x false last e = same_items new e
  pushed new x true last e =
      let one : suc i ≡ i + 1 = omega arith in
      let none : items_in (drop (suc i) bs) ≡ [] = ap (λ l. items_in l) (drop_all (suc i) bs (omega arith)) in
      items_with bs i new block ∙ ap (λ l. items_in (take i bs) ++ (new.items ++ l)) none ∙ ap (λ l. items_in (take i bs) ++ l) (append-nil new.items ∙ e)
      ∙ sym (ap (λ l. l ++ x ∷ []) (items_around bs i b block is ∙ ap (λ l. items_in (take i bs) ++ (b.items ++ l)) none ∙ ap (λ l. items_in (take i bs) ++ l) (append-nil b.items)) ∙ append_assoc (items_in (take i bs)) b.items (x ∷ []))

  module _ (front behind : Vec T A) where
    pub split_items : front.items ++ behind.items ≡ b.items → items_in (insert (slice_set bs i front) (i + 1) behind) ≡ items_in bs
    split_items e =
        let one : suc i ≡ i + 1 = omega arith in
        let p = items_in (take i bs) in
        let q = items_in (drop (suc i) bs) in
        let before : items_in (take (i + 1) (slice_set bs i front)) ≡ p ++ front.items =
        ap (λ l. items_in l) (take_more_set bs i front block) ∙ flat_map-append (λ v. v.items) (take i bs) (front ∷ []) ∙ ap (λ l. p ++ l) (append-nil front.items) in
        let after : items_in (drop (i + 1) (slice_set bs i front)) ≡ q = ap (λ l. items_in l) (drop-set-lt (i + 1) bs i front (omega arith)) ∙ ap (λ n. items_in (drop n bs)) (sym one) in
        flat_map-append (λ v. v.items) (take (i + 1) (slice_set bs i front)) (behind ∷ drop (i + 1) (slice_set bs i front))
        ∙ ap (λ l. l ++ (behind.items ++ items_in (drop (i + 1) (slice_set bs i front)))) before ∙ ap (λ l. (p ++ front.items) ++ (behind.items ++ l)) after
        ∙ append_assoc p front.items (behind.items ++ q) ∙ ap (λ l. p ++ l) (sym (append_assoc front.items behind.items q) ∙ ap (λ l. l ++ q) e)
        ∙ sym (items_around bs i b block is)

    pub split_capacity : vec_capacity front ≡ vec_capacity b → capacity_in bs ≤ capacity_in (insert (slice_set bs i front) (i + 1) behind)
    split_capacity same =
        let cs = slice_set bs i front in
        let kept = capacity_same bs i b front block is same in
        let parts = ap capacity_in (take-append-drop (i + 1) cs) in
        omega (arith, capacity_append (take (i + 1) cs) (drop (i + 1) cs), capacity_append (take (i + 1) cs) (behind ∷ drop (i + 1) cs))

    pub split_room : vec_len front < vec_capacity front → HasRoom (insert (slice_set bs i front) (i + 1) behind) i
    split_room less =
        let cs = slice_set bs i front in
        let here = room_here front less in
        let within : i + 1 ≤ length cs = let l = here.block in omega arith in
        record {
          block = omega (arith, length-insert cs (i + 1) behind within);
          room = λ d. subst (λ v. vec_len v < vec_capacity v) (sym (get_or-insert_below cs (i + 1) behind d i (omega arith) within)) (here.room d);
        }
