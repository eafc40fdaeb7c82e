-- What blocks have, around one of them.
use Rattle.std.proofs.Common.{◌≡◌, ◌<◌, ◌+◌, ◌∷◌, ◌++◌, suc, List, ℕ, Vec, length, slice_index_or, slice_set, take, drop, sym, ap, ◌∙◌, arith}
use Rattle.std.specs.List.{remove}
use Rattle.std.proofs.lemmas.List.{set_split, set-get_or}
use Rattle.std.proofs.lemmas.List.Concat.{flat_map-append}
use Rattle.long_vec.specs.Blocks.{items_in, IsAt}
use Rattle.long_vec.proofs.Around.{found_around, set_around, removed_around}

module _ {T A : Type 0} (bs : List (Vec T A)) (i : ℕ) where
  -- with another block in the place of block i
  pub items_with : (b : Vec T A) → i < length bs → items_in (slice_set bs i b) ≡ items_in (take i bs) ++ (b.items ++ items_in (drop (suc i) bs))
  items_with b within = ap (λ l. items_in l) (set_split bs i b within) ∙ flat_map-append (λ v. v.items) (take i bs) (b ∷ drop (suc i) bs)

  pub items_around : (b : Vec T A) → i < length bs → b ≡ slice_index_or bs i b → items_in bs ≡ items_in (take i bs) ++ (b.items ++ items_in (drop (suc i) bs))
  items_around b within is = ap (λ l. items_in l) (sym (ap (slice_set bs i) is ∙ set-get_or bs i b)) ∙ items_with b within

  -- ---- the item of a number

  module _ (number k : ℕ) (at : IsAt bs number i k) (b : Vec T A) (is : b ≡ slice_index_or bs i b) where
    inside : k < length b.items
    inside = let here = at.inside b in let same = ap (λ v. v.len) is in omega (arith, b.ok.0)

    abbrev prefix : List T
    prefix = items_in (take i bs)

    abbrev rest : List T
    rest = items_in (drop (suc i) bs)

    pub found : (x : T) → x ≡ slice_index_or b.items k x → x ≡ slice_index_or (items_in bs) number x
    found x e = e ∙ sym (ap (λ n. slice_index_or (items_in bs) n x) at.before ∙ ap (λ l. slice_index_or l (length prefix + k) x) (items_around b at.block is) ∙ found_around prefix b.items rest k x inside)

    pub exchanged : (new : Vec T A) (x : T) → new.items ≡ slice_set b.items k x → items_in (slice_set bs i new) ≡ slice_set (items_in bs) number x
    exchanged new x e =
        items_with new at.block ∙ ap (λ l. prefix ++ (l ++ rest)) e
        ∙ sym (ap (λ n. slice_set (items_in bs) n x) at.before ∙ ap (λ l. slice_set l (length prefix + k) x) (items_around b at.block is) ∙ set_around prefix b.items rest k x inside)

    pub removed : (new : Vec T A) → new.items ≡ remove b.items k → items_in (slice_set bs i new) ≡ remove (items_in bs) number
    removed new e =
        items_with new at.block ∙ ap (λ l. prefix ++ (l ++ rest)) e
        ∙ sym (ap (λ n. remove (items_in bs) n) at.before ∙ ap (λ l. remove l (length prefix + k)) (items_around b at.block is) ∙ removed_around prefix b.items rest k inside)
