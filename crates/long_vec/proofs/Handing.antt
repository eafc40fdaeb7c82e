-- An item that comes to a full block, and what it hands on.
use Rattle.std.proofs.Common.{◌≡◌, ◌≢◌, ◌<◌, ◌≤◌, ◌+◌, ◌-◌, ◌∷◌, ◌++◌, [], suc, List, ℕ, Vec, length, slice_index_or, slice_set, take, drop, refl, sym, ap, subst, ◌∙◌, arith, vec_len, vec_capacity}
use Rattle.std.specs.List.{insert}
use Rattle.std.proofs.lemmas.List.{append_assoc, append-nil, drop-set, drop-set-lt, drop_more, get_or_default, get_or-set_other, length-set, take-append-drop, take-set-le, take_more, take_more_set}
use Rattle.std.proofs.lemmas.List.Concat.{flat_map-append}
use Rattle.std.proofs.lemmas.List.Edits.{insert-append_left, insert-append_right}
use Rattle.long_vec.specs.Blocks.{items_in, HasRoom, IsNumberIn, IsPlace, with_put}
use Rattle.long_vec.proofs.Blocks.{items_with}

-- before the first one of the second list
between : {X : Type 0} (xs ys : List X) (x : X) → insert (xs ++ ys) (length xs) x ≡ xs ++ x ∷ ys
between xs ys x = let none : length xs - length xs ≡ 0 = omega arith in insert-append_right xs ys (length xs) (length xs) x refl (omega arith) ∙ ap (λ n. xs ++ insert ys n x) none

module _ {T A : Type 0} (bs : List (Vec T A)) where
  pub items_before : (i : ℕ) (b : Vec T A) → i < length bs → b ≡ slice_index_or bs i b → items_in (take (i + 1) bs) ≡ items_in (take i bs) ++ b.items
  items_before i b within is =
      ap (λ l. items_in l) (take_more bs i b within) ∙ flat_map-append (λ v. v.items) (take i bs) (slice_index_or bs i b ∷ [])
      ∙ ap (λ l. items_in (take i bs) ++ l) (append-nil (slice_index_or bs i b).items ∙ ap (λ v. v.items) (sym is))

  pub items_from : (i : ℕ) (b : Vec T A) → i < length bs → b ≡ slice_index_or bs i b → items_in (drop i bs) ≡ b.items ++ items_in (drop (i + 1) bs)
  items_from i b within is = ap (λ l. items_in l) (drop_more bs i b within) ∙ ap (λ v. v.items ++ items_in (drop (i + 1) bs)) (sym is)

  -- put in at a place of this number it comes to this number of the list
  pub put_at : (number i k : ℕ) (x : T) → IsPlace bs number i k → with_put bs i k x ≡ insert (items_in bs) number x
  put_at number i k x place =
      let p = items_in (take i bs) in
      let q = items_in (drop i bs) in
      let at : length p + k - length p ≡ k = omega arith in
      sym (ap (λ n. insert (items_in bs) n x) place.before ∙ ap (λ l. insert l (length p + k) x) (ap (λ l. items_in l) (sym (take-append-drop i bs)) ∙ flat_map-append (λ b. b.items) (take i bs) (drop i bs))
      ∙ insert-append_right p q (length p) (length p + k) x refl (omega arith) ∙ ap (λ n. p ++ insert q n x) at)

  module _ (i k : ℕ) (x : T) (b new : Vec T A) (block : i < length bs) (is : b ≡ slice_index_or bs i b) (within : k ≤ length b.items) where
    abbrev behind : List T
    behind = items_in (drop (i + 1) bs)

    opened : with_put bs i k x ≡ items_in (take i bs) ++ (insert b.items k x ++ behind)
    opened = ap (λ l. items_in (take i bs) ++ l) (ap (λ l. insert l k x) (items_from i b block is) ∙ insert-append_left b.items behind k x within)

    -- into a block with room
    pub put_here : new.items ≡ insert b.items k x → items_in (slice_set bs i new) ≡ with_put bs i k x
    put_here e =
        let one : suc i ≡ i + 1 = omega arith in
        let next : drop (suc i) bs ≡ drop (i + 1) bs = ap (λ n. drop n bs) one in
        items_with bs i new block ∙ ap (λ l. items_in (take i bs) ++ l) (ap (λ l. new.items ++ items_in l) next ∙ ap (λ l. l ++ behind) e) ∙ sym opened

    -- the last one is handed on to the front of the next block
    pub handed_on : (y : T) → insert b.items k x ≡ new.items ++ y ∷ [] → with_put (slice_set bs i new) (i + 1) 0 y ≡ with_put bs i k x
    handed_on y e =
        let before : items_in (take (i + 1) (slice_set bs i new)) ≡ items_in (take i bs) ++ new.items =
        ap (λ l. items_in l) (take_more_set bs i new block) ∙ flat_map-append (λ v. v.items) (take i bs) (new ∷ []) ∙ ap (λ l. items_in (take i bs) ++ l) (append-nil new.items) in
        let after : items_in (drop (i + 1) (slice_set bs i new)) ≡ behind = ap (λ l. items_in l) (drop-set-lt (i + 1) bs i new (omega arith)) in
        ap (λ l. l ++ y ∷ items_in (drop (i + 1) (slice_set bs i new))) before ∙ ap (λ l. (items_in (take i bs) ++ new.items) ++ y ∷ l) after
        ∙ append_assoc (items_in (take i bs)) new.items (y ∷ behind)
        ∙ sym (opened ∙ ap (λ l. items_in (take i bs) ++ (l ++ behind)) e ∙ ap (λ l. items_in (take i bs) ++ l) (append_assoc new.items (y ∷ []) behind))

    -- the first one is handed back to the end of the block before
    pub handed_back : (j : ℕ) (c : Vec T A) (y : T) → i ≡ j + 1 → c ≡ slice_index_or bs j c → insert b.items k x ≡ y ∷ new.items → with_put (slice_set bs i new) j (length c.items) y ≡ with_put bs i k x
    handed_back j c y at isc e =
        let bs' = slice_set bs i new in
        let inside : j < length bs' = omega (arith, length-set bs i new) in
        let same : c ≡ slice_index_or bs' j c = isc ∙ sym (get_or-set_other bs i j new c (λ q. omega arith)) in
        let front : take j bs' ≡ take j bs = take-set-le j bs i new (omega arith) in
        let next : drop (j + 1) bs' ≡ new ∷ drop (i + 1) bs = ap (λ n. drop n bs') (sym at) ∙ drop-set bs i new block in
        let mine : items_in (take i bs) ≡ items_in (take j bs) ++ c.items = ap (λ n. items_in (take n bs)) at ∙ items_before j c (omega arith) isc in
        ap (λ l. items_in l ++ insert (items_in (drop j bs')) (length c.items) y) front
        ∙ ap (λ l. items_in (take j bs) ++ l) (ap (λ l. insert l (length c.items) y) (step bs' j c inside same ∙ ap (λ l. c.items ++ items_in l) next) ∙ between c.items (new.items ++ behind) y)
        ∙ sym (opened ∙ ap (λ l. l ++ (insert b.items k x ++ behind)) mine ∙ ap (λ l. (items_in (take j bs) ++ c.items) ++ (l ++ behind)) e ∙ append_assoc (items_in (take j bs)) c.items (y ∷ (new.items ++ behind)))
      where
        step : (cs : List (Vec T A)) (j : ℕ) (c : Vec T A) → j < length cs → c ≡ slice_index_or cs j c → items_in (drop j cs) ≡ c.items ++ items_in (drop (j + 1) cs)
        step cs j c within is = ap (λ l. items_in l) (drop_more cs j c within) ∙ ap (λ v. v.items ++ items_in (drop (j + 1) cs)) (sym is)

  -- another block keeps its room
  pub room_stays : (i j : ℕ) (new : Vec T A) → i ≢ j → HasRoom bs j → HasRoom (slice_set bs i new) j
  room_stays i j new apart has = record {
    block = (let l = has.block in omega (arith, length-set bs i new));
    room = λ d. subst (λ b. vec_len b < vec_capacity b) (sym (get_or-set_other bs i j new d (λ q. apart (sym q)))) (has.room d);
  }

  pub number_within : (i k : ℕ) (b : Vec T A) → IsNumberIn bs i k → b ≡ slice_index_or bs i b → k ≤ length b.items
  number_within i k b within is = let here = within b in let same = ap (λ v. v.len) is in omega (arith, b.ok.0)

  pub all_within : (i : ℕ) (b : Vec T A) → i < length bs → b ≡ slice_index_or bs i b → IsNumberIn bs i (vec_len b)
  all_within i b block is = λ d. let same = ap (λ v. v.len) (get_or_default bs i d b block ∙ sym is) in omega arith
