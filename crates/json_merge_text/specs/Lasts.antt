-- For private clauses: which member of a name is the last.
use Rattle.std.specs.Prelude.{◌≡◌, ℕ, suc, List, [], ◌∷◌, cond, bytes_eq, Option, Some, None, option_map}
use Rattle.std.specs.Borrow.{Bor}
use Rattle.std.specs.declared.alloc.Global.{Global}
use Rattle.std.specs.BTreeMap.{BTreeMap, get_by}
use Rattle.std.specs.Cmp.Lexicographic.{slice_cmp}
use Rattle.std.specs.Ordering.{nat_cmp}
use Rattle.json.specs.declared.value.Value.{Value}

-- an object's members as they are read
abbrev pub Entries : Type 0
Entries = List (Bor (List ℕ) × Value Global)

-- the one behind, if there is one, and else the earlier
abbrev pub behind_or : Option ℕ → Option ℕ → Option ℕ
behind_or None earlier = earlier
behind_or (Some n) earlier = Some n

-- the number of the last member named k
abbrev pub last_of : List ℕ → Entries → Option ℕ
last_of k [] = None
last_of k (e ∷ es) = behind_or (option_map suc (last_of k es)) (cond (bytes_eq e.0.now k) (Some 0) None)

-- what a map from names has at k
abbrev pub place_in : BTreeMap (Bor (List ℕ)) ℕ → List ℕ → Option ℕ
place_in m k = get_by (λ l. slice_cmp nat_cmp k l.now) m

-- the map has each name's last number
abbrev pub HasLasts : BTreeMap (Bor (List ℕ)) ℕ → Entries → Type 0
HasLasts m es = (k : List ℕ) → place_in m k ≡ last_of k es
