-- What stands in blocks, and where.
use Rattle.std.specs.Prelude.{◌≡◌, ◌<◌, ◌≤◌, ◌+◌, ◌++◌, ℕ, List, [], ◌∷◌, Vec, drop, insert, length, slice_index_or, take, vec_capacity, vec_len}
use Rattle.std.specs.List.{flat_map}

-- the items of the blocks, in order
abbrev pub items_in : {T A : Type 0} → List (Vec T A) → List T
items_in = flat_map (λ b. b.items)

-- for how many items the blocks have room, those that they have counted
abbrev pub capacity_in : {T A : Type 0} → List (Vec T A) → ℕ
capacity_in [] = 0
capacity_in (b ∷ bs) = vec_capacity b + capacity_in bs

-- the item of this number is the k-th of block i
pub record IsAt {T A : Type 0} (bs : List (Vec T A)) (number i k : ℕ) : Type 0 where
  pub block : i < length bs
  pub before : number ≡ length (items_in (take i bs)) + k
  pub inside : (d : Vec T A) → k < vec_len (slice_index_or bs i d)

-- block i has so many items, or more
abbrev pub IsNumberIn : {T A : Type 0} → List (Vec T A) → ℕ → ℕ → Type 0
IsNumberIn {T} {A} bs i k = (d : Vec T A) → k ≤ vec_len (slice_index_or bs i d)

-- an item that comes to number k of block i comes to this number of the list; between two blocks there are two such places
pub record IsPlace {T A : Type 0} (bs : List (Vec T A)) (number i k : ℕ) : Type 0 where
  pub block : i < length bs
  pub before : number ≡ length (items_in (take i bs)) + k
  pub inside : IsNumberIn bs i k

-- there is a block i, and it has an item
pub record HasItem {T A : Type 0} (bs : List (Vec T A)) (i : ℕ) : Type 0 where
  pub block : i < length bs
  pub some : (d : Vec T A) → 0 < vec_len (slice_index_or bs i d)

-- there is a block i, and it has room
pub record HasRoom {T A : Type 0} (bs : List (Vec T A)) (i : ℕ) : Type 0 where
  pub block : i < length bs
  pub room : (d : Vec T A) → vec_len (slice_index_or bs i d) < vec_capacity (slice_index_or bs i d)

-- the items, with one put in at number k of block i
abbrev pub with_put : {T A : Type 0} → List (Vec T A) → ℕ → ℕ → T → List T
with_put bs i k x = items_in (take i bs) ++ insert (items_in (drop i bs)) k x
