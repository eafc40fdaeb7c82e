-- For private clauses: members by their names.
use Rattle.std.specs.Prelude.{◌≡◌, ◌⊎◌, ℕ, List, Option, Some, None, ⊤, option_map}
use Rattle.std.specs.Borrow.{Bor}
use Rattle.std.specs.Ordering.{nat_cmp}
use Rattle.std.specs.Cmp.Lexicographic.{slice_cmp}
use Rattle.std.specs.BTreeMap.{BTreeMap, get_by}
use Rattle.json.specs.Json.{Json, Members}
use Rattle.json.specs.Find.{get_member}
use Rattle.json.specs.Value.{value_view}
use Rattle.json.specs.declared.value.Value.{Value}
use Rattle.json_reading.specs.Same.{SameTree}

-- what a map from names has at k
abbrev pub stands : {A : Type 0} → List ℕ → BTreeMap (Bor (List ℕ)) (Bor (Value A)) → Option Json
stands k m = option_map (λ v. value_view v.now) (get_by (λ l. slice_cmp nat_cmp k l.now) m)

-- where there may be a tree: the same in both, or none in both
abbrev pub SameAt : Option Json → Option Json → Type 0
SameAt None None = ⊤
SameAt (Some i) (Some j) = SameTree i j
SameAt o p = ⊥

-- of two objects' members, with those of rest still ahead, what f and g have are not compared yet: at each name both have
-- what stands there, or the two were the same and are gone
pub record Matched (ms ns rest : Members) (f g : List ℕ → Option Json) : Type 0 where
  pub each : (k : List ℕ) → ((f k ≡ get_member k ms) × (g k ≡ get_member k ns)) ⊎ ((f k ≡ None) × (g k ≡ None) × SameAt (get_member k ms) (get_member k ns))
  pub ahead : (k : List ℕ) → get_member k rest ≡ None → f k ≡ None
