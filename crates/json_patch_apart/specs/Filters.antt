-- For private clauses: the slots of a filter.
use Rattle.std.specs.Prelude.{◌≡◌, ◌+◌, ◌*◌, ◌%◌, ℕ, List, [], ◌∷◌, Bool, true, false, get_or}
use Rattle.std.specs.List.{AllByRecursion}
use Rattle.jsonptr.specs.Text.{Pointer, encoded}
use Rattle.json_patch_apart.specs.Apart.{changed_by, read_by}
use Rattle.json_patch_operation.specs.Operation.{Operation}
use Rattle.json_patch_apart.specs.declared.filter.Filter.{Filter}

-- the slot h with the bytes mixed in
abbrev pub mixed : ℕ → List ℕ → ℕ
mixed h [] = h
mixed h (b ∷ bs) = mixed ((h * 31 + b) % 16384) bs

-- the slot of some tokens and then t, where h is the slot of those tokens
abbrev pub slot_after : ℕ → List ℕ → ℕ
slot_after h t = mixed h (47 ∷ encoded t)

-- the slot of some tokens and then those of the pointer, where h is the slot of the first
abbrev pub slot_from : ℕ → Pointer → ℕ
slot_from h [] = h
slot_from h (t ∷ P) = slot_from (slot_after h t) P

-- b stands at the slot h, from which the pointer goes on, and at each slot on its way
abbrev pub Along : Bool → List Bool → ℕ → Pointer → Type 0
Along b slots h [] = get_or slots h false ≡ b
Along b slots h (t ∷ P) = (get_or slots h false ≡ b) × Along b slots (slot_after h t) P

-- the pointer was put in
pub record Has (f : Filter) (P : Pointer) : Type 0 where
  pub begun : Along true f.begun 0 P
  pub whole : get_or f.whole (slot_from 0 P) false ≡ true

-- each slot that was taken stays so
abbrev pub KeepsTaken : List Bool → List Bool → Type 0
KeepsTaken old new = (i : ℕ) → get_or old i false ≡ true → get_or new i false ≡ true

abbrev pub KeepsSlots : Filter → Filter → Type 0
KeepsSlots f g = KeepsTaken f.begun g.begun × KeepsTaken f.whole g.whole

-- all pointers of the operation were put in
abbrev pub HasAll : Filter → Operation → Type 0
HasAll f op = AllByRecursion (Has f) (changed_by op) × AllByRecursion (Has f) (read_by op)
