-- How deep documents are as trees, how deep a plain patch puts values, and how many values there are.
use Rattle.std.proofs.Common.{◌≡◌, ◌≤◌, ◌+◌, ⊎_elim, ℕ, zero, suc, List, [], ◌∷◌, Bool, false, length, max, refl, ap, ap₂, arith}
use Rattle.std.specs.Prelude.{⊤}
use Rattle.std.proofs.lemmas.Bool.{cases_lt}
use Rattle.json.specs.Tree as tree
use Rattle.serde_json.specs.Data.{Num, Data, null, boolean, number, string, array, object, Items, no_items, item, Members, no_members, member, depth, items_depth, members_depth}
use Rattle.json_patch_diff.specs.Size.{values, item_values, member_values}
use Rattle.json_patch_laws.specs.Inverse.{ArePlain, IsPlain}
use Rattle.json_patch_limits.specs.OverLimits.{NeverOver, copied_by, left_of, reach_of}
use Rattle.json_patch_limits.specs.declared.limits.LimitKind.TheVariants.{TooDeep}
use Rattle.json_patch_limits.specs.declared.limits.Limits.{Limits}
use Rattle.json_patch_operation.specs.Operation as document
use Rattle.json_patch_operation.specs.Operation.{Operation}
use Rattle.json_patch_text.specs.Shallow.{AllPutWithin, PutsWithin}
use Rattle.json_diff_text.specs.Numerals.{tree_of, tree_items, tree_members, tree_op, tree_ops}
use Rattle.json_diff_text.specs.Renumbered.{renumbered, renumbered_items, renumbered_members}

-- ---- a document as a tree is as deep

mutual
  pub depth_is : (ts : List (List ℕ)) (d : Data) → tree.depth (tree_of ts d) ≡ depth d
  depth_is ts null = refl
  depth_is ts (boolean b) = refl
  depth_is ts (number n) = refl
  depth_is ts (string s) = refl
  depth_is ts (array ds) = ap suc (items_depth_is ts ds)
  depth_is ts (object ms) = ap suc (members_depth_is ts ms)

  items_depth_is : (ts : List (List ℕ)) (ds : Items) → tree.items_depth (tree_items ts ds) ≡ items_depth ds
  items_depth_is ts no_items = refl
  items_depth_is ts (item d ds) = ap₂ max (depth_is ts d) (items_depth_is ts ds)

  members_depth_is : (ts : List (List ℕ)) (ms : Members) → tree.members_depth (tree_members ts ms) ≡ members_depth ms
  members_depth_is ts no_members = refl
  members_depth_is ts (member k d ms) = ap₂ max (depth_is ts d) (members_depth_is ts ms)

-- ---- and as deep with other numbers

mutual
  pub depth_same : (f : Num → Num) (d : Data) → depth (renumbered f d) ≡ depth d
  depth_same f null = refl
  depth_same f (boolean b) = refl
  depth_same f (number n) = refl
  depth_same f (string s) = refl
  depth_same f (array ds) = ap suc (items_depth_same f ds)
  depth_same f (object ms) = ap suc (members_depth_same f ms)

  items_depth_same : (f : Num → Num) (ds : Items) → items_depth (renumbered_items f ds) ≡ items_depth ds
  items_depth_same f no_items = refl
  items_depth_same f (item d ds) = ap₂ max (depth_same f d) (items_depth_same f ds)

  members_depth_same : (f : Num → Num) (ms : Members) → members_depth (renumbered_members f ms) ≡ members_depth ms
  members_depth_same f no_members = refl
  members_depth_same f (member k d ms) = ap₂ max (depth_same f d) (members_depth_same f ms)

-- ---- a plain patch that is never over fits

reaches : (l : Limits) (d : Data) (op : Operation) (ops : List Operation) → NeverOver false l d (op ∷ ops) → reach_of d op ≤ l.depth
reaches l d op ops never = ⊎_elim (λ deep. absurd (never zero TooDeep deep)) (λ low. low) (cases_lt l.depth (reach_of d op))

copies_none : (l : Limits) (d : Data) (op : Operation) → IsPlain d op → copied_by false d op ≤ l.copied
copies_none l d (document.add P v) plain = omega arith
copies_none l d (document.remove P) plain = omega arith
copies_none l d (document.replace P v) plain = omega arith
copies_none l d (document.move F P) plain = absurd plain
copies_none l d (document.copy F P) plain = absurd plain
copies_none l d (document.test P v) plain = absurd plain

-- what an operation of a document puts reaches so many levels at the most, and it moves and copies nothing
abbrev pub FitsHere : ℕ → Operation → Type 0
FitsHere n (document.add P v) = length P + depth v ≤ n
FitsHere n (document.remove P) = ⊤
FitsHere n (document.replace P v) = length P + depth v ≤ n
FitsHere n (document.move F P) = ⊥
FitsHere n (document.copy F P) = ⊥
FitsHere n (document.test P v) = ⊤

abbrev pub AllFitHere : ℕ → List Operation → Type 0
AllFitHere n [] = ⊤
AllFitHere n (op ∷ ops) = FitsHere n op × AllFitHere n ops

fits : (n : ℕ) (d : Data) (op : Operation) → IsPlain d op → reach_of d op ≤ n → FitsHere n op
fits n d (document.add P v) plain low = low
fits n d (document.remove P) plain low = tt
fits n d (document.replace P v) plain low = low
fits n d (document.move F P) plain low = absurd plain
fits n d (document.copy F P) plain low = absurd plain
fits n d (document.test P v) plain low = absurd plain

all_fit : (l : Limits) (d : Data) (ops : List Operation) → ArePlain d ops → NeverOver false l d ops → AllFitHere l.depth ops
all_fit l d [] plain never = tt
all_fit l d (op ∷ ops) (m, plain, leaves, rest) never =
    let low : reach_of d op ≤ l.depth = reaches l d op ops never in (
      fits l.depth d op plain low,
      all_fit (left_of false l d op) m ops rest (λ k kind h. never (suc k) kind ((low, copies_none l d op plain), (m, leaves, h))),
    )

pub patch_fits : (d e : Data) (ops : List Operation) → ArePlain d ops → ((recorded : Bool) (l : Limits) → depth e ≤ l.depth → NeverOver recorded l d ops) → AllFitHere (depth e) ops
patch_fits d e ops plain never =
    let l : Limits = record { depth = depth e; copied = 0 } in
    let low : depth e ≤ depth e = omega arith in
    all_fit l d ops plain (never false l low)

fits_more : (n m : ℕ) (op : Operation) → n ≤ m → FitsHere n op → FitsHere m op
fits_more n m (document.add P v) le low = let h : length P + depth v ≤ n = low in omega (arith, le, h)
fits_more n m (document.remove P) le low = tt
fits_more n m (document.replace P v) le low = let h : length P + depth v ≤ n = low in omega (arith, le, h)
fits_more n m (document.move F P) le low = absurd low
fits_more n m (document.copy F P) le low = absurd low
fits_more n m (document.test P v) le low = tt

pub fit_more : (n m : ℕ) (ops : List Operation) → n ≤ m → AllFitHere n ops → AllFitHere m ops
fit_more n m [] le h = tt
fit_more n m (op ∷ ops) le h = (fits_more n m op le h.0, fit_more n m ops le h.1)

-- as trees
fits_there : (ts : List (List ℕ)) (n m : ℕ) (op : Operation) → n ≤ m → FitsHere n op → PutsWithin m (tree_op ts op)
fits_there ts n m (document.add P v) le low = let e = depth_is ts v in let h : length P + depth v ≤ n = low in omega (arith, le, e, h)
fits_there ts n m (document.remove P) le low = tt
fits_there ts n m (document.replace P v) le low = let e = depth_is ts v in let h : length P + depth v ≤ n = low in omega (arith, le, e, h)
fits_there ts n m (document.move F P) le low = absurd low
fits_there ts n m (document.copy F P) le low = absurd low
fits_there ts n m (document.test P v) le low = tt

pub all_fit_there : (ts : List (List ℕ)) (n m : ℕ) (ops : List Operation) → n ≤ m → AllFitHere n ops → AllPutWithin m (tree_ops ts ops)
all_fit_there ts n m [] le h = tt
all_fit_there ts n m (op ∷ ops) le h = (fits_there ts n m op le h.0, all_fit_there ts n m ops le h.1)

-- ---- with other numbers as many values

mutual
  pub values_are : (f : Num → Num) (d : Data) → values (renumbered f d) ≡ values d
  values_are f null = refl
  values_are f (boolean b) = refl
  values_are f (number n) = refl
  values_are f (string s) = refl
  values_are f (array ds) = ap suc (item_values_are f ds)
  values_are f (object ms) = ap suc (member_values_are f ms)

  item_values_are : (f : Num → Num) (ds : Items) → item_values (renumbered_items f ds) ≡ item_values ds
  item_values_are f no_items = refl
  item_values_are f (item d ds) = ap₂ (λ a b. a + b) (values_are f d) (item_values_are f ds)

  member_values_are : (f : Num → Num) (ms : Members) → member_values (renumbered_members f ms) ≡ member_values ms
  member_values_are f no_members = refl
  member_values_are f (member k d ms) = ap₂ (λ a b. a + b) (values_are f d) (member_values_are f ms)
