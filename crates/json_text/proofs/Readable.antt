-- What is known of a text that was checked, and of a part of it.
use Rattle.std.proofs.Common.{◌≡◌, ◌≤◌, ◌+◌, ℕ, List, length, Some, refl, sym, subst, arith}
use Rattle.std.specs.Prelude.{IsSome}
use Rattle.json.specs.Json.{Json, document, max_depth}
use Rattle.json.specs.Tree.{depth}
use Rattle.jsonptr.specs.Text.{Pointer}
use Rattle.json_text.specs.Changed.{remove_at}
use Rattle.json_text.specs.Pointed.{StandsBetween, tree_at}
use Rattle.json_text.specs.Removed.{IsRemoved}
use Rattle.json_lexemes.specs.Skipped.{nesting}
use Rattle.json_lexemes.specs.Spelled.{IsShallowText, Says}
use Rattle.json_text.proofs.Depths.{part_inside, remove_nests}
use Rattle.json_lexemes.proofs.Nests.{nests, read_is}

pub readable : (text : List ℕ) → (j : Json) × IsShallowText text j → IsSome (document text)
readable text (j, s) = subst IsSome (sym ((read_is text j).1 s)) refl

pub part_shallow : (P : Pointer) (j v : Json) → tree_at P j ≡ Some v → depth j ≤ max_depth → depth v ≤ max_depth
part_shallow P j v e h = let inside : length P + depth v ≤ depth j = part_inside P j v e in omega arith

pub part_says : (text before part behind : List ℕ) (P : Pointer) (j : Json) → IsShallowText text j → StandsBetween before part behind j P → (v : Json) × IsShallowText part v
part_says text before part behind P j s (v, at, stretch) = (v, (stretch.says, part_shallow P j v at s.1))

pub less_says : (text less : List ℕ) (P : Pointer) → IsRemoved text P less → (j : Json) × IsShallowText less j
less_says text less P r =
    let lower : depth (remove_at P r.tree) ≤ depth r.tree = remove_nests P r.tree in
    let most : depth r.tree ≤ max_depth = r.says.1 in
    (remove_at P r.tree, (r.after, omega arith))

-- a text that is known to be within so many levels
pub nests_within : (t : List ℕ) (n m : ℕ) → n ≤ m → (j : Json) × Says t j × (depth j ≤ n) → nesting t ≤ m
nests_within t n m h (j, says, d) = omega (arith, nests t j says, d, h)

pub shallow_within : (t : List ℕ) (n : ℕ) → n ≤ max_depth → (j : Json) × Says t j × (depth j ≤ n) → (j : Json) × IsShallowText t j
shallow_within t n h (j, says, d) = (j, (says, omega (arith, d, h)))
