-- Lists of operations that are about different parts of a document, as their pointers alone show (RFC 6901, section 4;
-- RFC 6902, section 4).
use Rattle.std.specs.Prelude.{◌||◌, ℕ, List, [], ◌∷◌, bytes_eq, is_some, if◌then◌else◌, Bool}
use Rattle.std.specs.List.{AllByRecursion}
use Rattle.jsonptr.specs.Text.{Pointer, IsPrefix}
use Rattle.jsonptr.specs.Places.{place_of, next_token}
use Rattle.json_patch_operation.specs.Operation.{Operation, add, remove, replace, move, copy, test}

-- neither begins the other
abbrev pub Diverge : Pointer → Pointer → Type 0
Diverge P Q = (IsPrefix P Q → ⊥) × (IsPrefix Q P → ⊥)

-- t may name an index of an array: it is a number, or `-`
abbrev pub may_be_place : List ℕ → Bool
may_be_place t = bytes_eq t next_token || is_some (place_of t)

-- the pointer of all that an add or a remove at P may change: P's parent, where P's last token may name an
-- index, since the elements of an array shift and it grows or shrinks, and else P itself
abbrev pub reach : Pointer → Pointer
reach [] = []
reach (t ∷ []) = if may_be_place t then [] else t ∷ []
reach (t ∷ u ∷ P) = t ∷ reach (u ∷ P)

-- the pointers of what an operation changes
abbrev pub changed_by : Operation → List Pointer
changed_by (add P v) = reach P ∷ []
changed_by (remove P) = reach P ∷ []
changed_by (replace P v) = P ∷ []
changed_by (move F P) = reach F ∷ reach P ∷ []
changed_by (copy F P) = reach P ∷ []
changed_by (test P v) = []

-- the pointers of what an operation reads and leaves as it is
abbrev pub read_by : Operation → List Pointer
read_by (add P v) = []
read_by (remove P) = []
read_by (replace P v) = []
read_by (move F P) = []
read_by (copy F P) = F ∷ []
read_by (test P v) = P ∷ []

abbrev pub DivergesFrom : Pointer → List Pointer → Type 0
DivergesFrom P Qs = AllByRecursion (Diverge P) Qs

abbrev pub AllDiverge : List Pointer → List Pointer → Type 0
AllDiverge Ps Qs = AllByRecursion (λ P. DivergesFrom P Qs) Ps

-- what the one changes diverges from what the other changes or reads; what both only read may be the same
pub record IsApart (x y : Operation) : Type 0 where
  pub changes : AllDiverge (changed_by x) (changed_by y)
  pub first : AllDiverge (changed_by x) (read_by y)
  pub second : AllDiverge (changed_by y) (read_by x)

abbrev pub IsApartFrom : Operation → List Operation → Type 0
IsApartFrom x ys = AllByRecursion (IsApart x) ys

-- each operation of the one list is apart from each of the other
abbrev pub AreApart : List Operation → List Operation → Type 0
AreApart xs ys = AllByRecursion (λ x. IsApartFrom x ys) xs
