-- Which member of a name is the last.
use Rattle.std.proofs.Common.{◌≡◌, ⊎_elim, ℕ, zero, suc, ◌+◌, ◌<◌, ◌≤◌, List, [], ◌∷◌, drop, length, get_or, Bool, true, false, cond, bytes_eq, is_some, Option, Some, None, option_map, Global, refl, sym, ap, ◌∙◌, arith}
use Rattle.std.specs.Borrow.{Bor}
use Rattle.std.proofs.Math.Dec.{ltb}
use Rattle.std.proofs.lemmas.Bool.{cases_lt, le-ltb, lt-ltb}
use Rattle.std.proofs.lemmas.List.{drop_more}
use Rattle.std.proofs.lemmas.Map.Text.{btree_map_updates_str}
use Rattle.std.specs.BTreeMap.{BTreeMap, UpdatesBy}
use Rattle.std.specs.Cmp.Lexicographic.{slice_cmp}
use Rattle.std.specs.Ordering.{nat_cmp}
use Rattle.json.specs.Find.{get_member, later_or}
use Rattle.json.specs.Json.{Json}
use Rattle.json.specs.Value.{value_view, members_view}
use Rattle.json.specs.declared.value.Value.{Value}
use Rattle.json_merge_text.specs.Lasts.{Entries, behind_or, last_of, place_in}

-- ---- the map is filled

one_more : (i : ℕ) (o old : Option ℕ) (b : Bool) → behind_or (option_map (λ n. (i + 1) + n) o) (cond b (Some i) old) ≡ behind_or (option_map (λ n. i + n) (behind_or (option_map suc o) (cond b (Some 0) None))) old
one_more i (Some n) old b = ap Some (omega arith)
one_more i None old true = ap Some (omega arith)
one_more i None old false = refl

pub next_last : (k : List ℕ) (es : Entries) (i : ℕ) (e : Bor (List ℕ) × Value Global) (old new : Option ℕ) → i < length es → e ≡ get_or es i e → new ≡ cond (bytes_eq e.0.now k) (Some i) old
    → behind_or (option_map (λ n. (i + 1) + n) (last_of k (drop (i + 1) es))) new ≡ behind_or (option_map (λ n. i + n) (last_of k (drop i es))) old
next_last k es i e old new less at is =
    ap (behind_or (option_map (λ n. (i + 1) + n) (last_of k (drop (i + 1) es)))) is
    ∙ one_more i (last_of k (drop (i + 1) es)) old (bytes_eq e.0.now k)
    ∙ ap (λ ds. behind_or (option_map (λ n. i + n) (last_of k ds)) old) (sym (drop_more es i e less ∙ ap (λ x. x ∷ drop (i + 1) es) (sym at)))

pub put_last : (m n : BTreeMap (Bor (List ℕ)) ℕ) (l : List ℕ) (i : ℕ) → UpdatesBy (λ x y. slice_cmp nat_cmp x.now y.now) (λ k. slice_cmp nat_cmp l k.now) m n (Some i) → (k : List ℕ) → place_in n k ≡ cond (bytes_eq l k) (Some i) (place_in m k)
put_last m n l i h k = btree_map_updates_str l m n (Some i) h k

-- ---- what it tells

-- one of this number or behind it
abbrev from : ℕ → Option ℕ → Bool
from i None = false
from zero (Some n) = true
from (suc i) (Some zero) = false
from (suc i) (Some (suc n)) = from i (Some n)

some_first : (o : Option Json) (p : Option ℕ) (b : Bool) (j : Json) → is_some o ≡ from 0 p → is_some (later_or o (cond b (Some j) None)) ≡ from 0 (behind_or (option_map suc p) (cond b (Some 0) None))
some_first (Some x) (Some n) b j e = refl
some_first (Some x) None b j e = cc
some_first None (Some n) b j e = cc
some_first None None true j e = refl
some_first None None false j e = refl

past_first : (i : ℕ) (p : Option ℕ) (b : Bool) → from i p ≡ from (suc i) (behind_or (option_map suc p) (cond b (Some 0) None))
past_first i (Some n) b = refl
past_first zero None true = refl
past_first (suc i) None true = refl
past_first zero None false = refl
past_first (suc i) None false = refl

ahead : (k : List ℕ) (es : Entries) (i : ℕ) → is_some (get_member k (members_view (drop i es))) ≡ from i (last_of k es)
ahead k [] zero = refl
ahead k [] (suc i) = refl
ahead k (e ∷ es) zero = some_first (get_member k (members_view es)) (last_of k es) (bytes_eq e.0.now k) (value_view e.1) (ahead k es zero)
ahead k (e ∷ es) (suc i) = ahead k es i ∙ past_first i (last_of k es) (bytes_eq e.0.now k)

from_none : (i : ℕ) → from i None ≡ false
from_none zero = refl
from_none (suc i) = refl

from_yes : (i n : ℕ) → i ≤ n → from i (Some n) ≡ true
from_yes zero n h = refl
from_yes (suc i) zero h = absurd (omega (arith, h))
from_yes (suc i) (suc n) h = from_yes i n (omega (arith, h))

from_no : (i n : ℕ) → n < i → from i (Some n) ≡ false
from_no zero n h = absurd (omega (arith, h))
from_no (suc i) zero h = refl
from_no (suc i) (suc n) h = from_no i n (omega (arith, h))

pub none_again : (k : List ℕ) (es : Entries) (i : ℕ) → last_of k es ≡ None → false ≡ is_some (get_member k (members_view (drop (i + 1) es)))
none_again k es i e = sym (ahead k es (i + 1) ∙ ap (from (i + 1)) e ∙ from_none (i + 1))

is_behind : (k : List ℕ) (es : Entries) (i n : ℕ) → last_of k es ≡ Some n → i < n → true ≡ is_some (get_member k (members_view (drop (i + 1) es)))
is_behind k es i n e h = sym (ahead k es (i + 1) ∙ ap (from (i + 1)) e ∙ from_yes (i + 1) n (omega (arith, h)))

not_behind : (k : List ℕ) (es : Entries) (i n : ℕ) → last_of k es ≡ Some n → n ≤ i → false ≡ is_some (get_member k (members_view (drop (i + 1) es)))
not_behind k es i n e h = sym (ahead k es (i + 1) ∙ ap (from (i + 1)) e ∙ from_no (i + 1) n (omega (arith, h)))

pub tells : (k : List ℕ) (es : Entries) (i n : ℕ) → last_of k es ≡ Some n → ltb i n ≡ is_some (get_member k (members_view (drop (i + 1) es)))
tells k es i n e = ⊎_elim (λ (h : i < n). lt-ltb i n h ∙ is_behind k es i n e h) (λ (h : n ≤ i). le-ltb i n h ∙ not_behind k es i n e h) (cases_lt i n)
